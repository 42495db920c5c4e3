-- The messages that records encode, or that values give, are of the schema that they are read or checked by. Serves the invariant of a table.
use Rattle.std.proofs.Common.{ℕ, suc, arith, ◌+◌, ◌≡◌, ◌∙◌, ◌++◌, ◌==◌, Bool, true, false, List, [], ◌∷◌, refl, sym}
use Rattle.std.proofs.Common.{ap, length, nat_le, take, ◌&&◌, Option, Some, None, IfOk, Result, Ok, Err, if◌then◌else◌}
use Rattle.std.specs.List.{cons_option, filter_map}
use Rattle.std.specs.Result.{result_err, result_ok}
use Rattle.bt_value.specs.Refusals.{lowest}
use Rattle.bt_value.specs.Results.{map_ok, unless}
use Rattle.bt_value.specs.Values.{AreInRange, fits_kind}
use Rattle.bt_value.specs.declared.refusal.Refusal.{Refusal}
use Rattle.bt_value.specs.declared.refusal.Refusal.TheVariants.{BadField, BadLength}
use Rattle.bt_value.specs.declared.value.Kind.{Kind}
use Rattle.bt_value.specs.declared.value.Value.{Value}
use Rattle.bt_row.specs.Arithmetic.{Action, Makes, Sets, action_of}
use Rattle.bt_row.specs.Ops.{action_fault, after_ops, checked_ops, default_row, fault_of, most_ops, open_kind, set_fault, upsert_as}
use Rattle.bt_row.specs.Fits.{OpsFit, OpsInRange}
use Rattle.bt_row.specs.Schemas.{Schema, checked_as, fit_columns, read_as}
use Rattle.bt_row.specs.declared.operations.op.Op.{Op}
use Rattle.bt_row.specs.declared.rows.schema.Column.{Column}
use Rattle.bt_row.proofs.offered.Fits.{after_ops_fits, after_ops_key, default_row_fits, default_row_key, read_fits, upsert_fits}
use Rattle.bt_keycode.specs.Codes.{code_of}
use Rattle.bt_keycode.specs.Keys.{is_before}
use Rattle.bt_keycode.specs.Standing.{Stands}
use Rattle.bt_keycode.proofs.offered.Ranges.{after_ops_in_range, default_row_in_range, read_in_range, upsert_in_range}
use Rattle.bt_message.specs.Messages.{sorted_batch, with_message, with_messages}
use Rattle.bt_messages.proofs.offered.Parts.{length-with_messages}
use Rattle.bt_rowtype.specs.declared.item.Item.{Item}
use Rattle.bt_rowtype.specs.declared.item.Item.TheVariants.{Put, Del, Ups}
use Rattle.bt_batch.specs.Batches.{KeyedMessage, RowMessages, batch_refusals, del_of, messages_of, put_of, read_batch, read_key, read_message, ups_of}
use Rattle.bt_batch.specs.Changes.{AreOfSchema, IsOfSchema, both_checked, checked_key}
use Rattle.bt_batch.proofs.Batches.{none_at_all}

-- ---- one message

pub put_of_schema : (schema : Schema) (row : List Value) → fit_columns schema.columns row ≡ true → AreInRange row → IsOfSchema schema (put_of schema.keys row)
put_of_schema schema row fits range = λ old stands. record { placed = refl; fits = fits; in_range = range }

-- a row of a key after operations of the schema
changed : (schema : Schema) (key row : List Value) (ops : List Op) → OpsFit schema ops → OpsInRange ops → Stands schema (code_of key) row
    → Stands schema (code_of key) (after_ops ops row)
changed schema key row ops fit range stands = record {
  placed = stands.placed ∙ ap code_of (sym (after_ops_key schema ops row fit stands.fits));
  fits = after_ops_fits schema ops row fit stands.fits;
  in_range = after_ops_in_range ops row range stands.in_range;
}

pub ups_of_schema : (schema : Schema) (key : List Value) (ops : List Op) → fit_columns (take schema.keys schema.columns) key ≡ true → AreInRange key
    → OpsFit schema ops → OpsInRange ops → IsOfSchema schema (ups_of schema (key, ops))
ups_of_schema schema key ops key_fit key_range fit range = by_old
  where
    by_old : IsOfSchema schema (ups_of schema (key, ops))
    by_old None stands = changed schema key (default_row schema key) ops fit range (record {
      placed = ap code_of (sym (default_row_key schema key key_fit));
      fits = default_row_fits schema key key_fit;
      in_range = default_row_in_range schema key key_range;
    })
    by_old (Some row) stands = changed schema key row ops fit range stands

-- ---- messages that records encode

message_of_schema : (schema : Schema) (item : ℕ) (line : Item) → IfOk (read_message schema item line) (IsOfSchema schema)
message_of_schema schema item (Put fields) =
    elim (read_as schema.columns item fields) as (λ r. read_as schema.columns item fields ≡ r → IfOk r AreInRange
    → IfOk (map_ok (put_of schema.keys) r) (IsOfSchema schema)) [
      | Ok row ↦ λ is range. put_of_schema schema row (read_fits schema.columns item fields row is) range
      | Err refusal ↦ λ is range. tt
    ] refl (read_in_range schema.columns item fields)
message_of_schema schema item (Del fields) =
    elim (read_key schema item fields) as (λ r. IfOk (map_ok del_of r) (IsOfSchema schema)) [ Ok key ↦ λ old stands. tt | Err refusal ↦ tt ]
message_of_schema schema item (Ups fields) =
    elim (upsert_as schema item fields) as (λ r. upsert_as schema item fields ≡ r → IfOk r (λ upsert. AreInRange upsert.0 × OpsInRange upsert.1)
    → IfOk (map_ok (ups_of schema) r) (IsOfSchema schema)) [
      | Ok upsert ↦ λ is range.
          let fits = upsert_fits schema item fields upsert.0 upsert.1 is in
          ups_of_schema schema upsert.0 upsert.1 fits.0 range.0 fits.1 range.1
      | Err refusal ↦ λ is range. tt
    ] refl (upsert_in_range schema item fields)

one_message : (schema : Schema) (read : Result KeyedMessage Refusal) (others : List (Result KeyedMessage Refusal)) → IfOk read (IsOfSchema schema)
    → AreOfSchema schema (filter_map result_ok others) → AreOfSchema schema (filter_map result_ok (read ∷ others))
one_message schema (Ok message) others fit rest = (fit, rest)
one_message schema (Err refusal) others fit rest = rest

lines_of_schema : (schema : Schema) (item : ℕ) (lines : List Item) → AreOfSchema schema (filter_map result_ok (read_batch schema item lines))
lines_of_schema schema item [] = tt
lines_of_schema schema item (line ∷ lines) =
    one_message schema (read_message schema item line) (read_batch schema (item + 1) lines) (message_of_schema schema item line)
    (lines_of_schema schema (item + 1) lines)

-- the messages of a batch are of the schema that they are read by
pub batch_of_schema : (schema : Schema) (items : List Item) → AreOfSchema schema (messages_of schema items)
batch_of_schema schema items = lines_of_schema schema 1 items

-- ---- several messages

pub append_of_schema : (schema : Schema) (messages : RowMessages) (message : KeyedMessage) → AreOfSchema schema messages → IsOfSchema schema message
    → AreOfSchema schema (messages ++ message ∷ [])
append_of_schema schema [] message all one = (one, tt)
append_of_schema schema (m ∷ ms) message all one = (all.0, append_of_schema schema ms message all.1 one)

placed_of_schema : (schema : Schema) (message : KeyedMessage) (older : RowMessages) → IsOfSchema schema message → AreOfSchema schema older
    → AreOfSchema schema (with_message message older)
placed_of_schema schema m [] one all = (one, tt)
placed_of_schema schema m (e ∷ es) one all = elim (is_before m.0 e.0) as (λ t. AreOfSchema schema (if t then m ∷ e ∷ es else e ∷ with_message m es)) [
  | true ↦ (one, all)
  | false ↦ (all.0, placed_of_schema schema m es one all.1)
]

all_placed_of_schema : (schema : Schema) (newer older : RowMessages) → AreOfSchema schema newer → AreOfSchema schema older
    → AreOfSchema schema (with_messages newer older)
all_placed_of_schema schema [] older new old = old
all_placed_of_schema schema (m ∷ ms) older new old =
    all_placed_of_schema schema ms (with_message m older) new.1 (placed_of_schema schema m older new.0 old)

-- messages sorted by key
pub sorted_of_schema : (schema : Schema) (batch : RowMessages) → AreOfSchema schema batch → AreOfSchema schema (sorted_batch batch)
sorted_of_schema schema batch all = all_placed_of_schema schema batch [] all tt

-- ---- the number of messages of a batch

no_first : {A : Type 0} (xs ys : List A) → xs ++ ys ≡ [] → xs ≡ []
no_first [] ys is = refl
no_first (x ∷ xs) ys is = absurd cc

length-read : (schema : Schema) (item : ℕ) (lines : List Item) → filter_map result_err (read_batch schema item lines) ≡ []
    → length (filter_map result_ok (read_batch schema item lines)) ≡ length lines
length-read schema item [] none = refl
length-read schema item (line ∷ lines) none = by_read (read_message schema item line) (length-read schema (item + 1) lines) none
  where
    by_read : (read : Result KeyedMessage Refusal)
        → (filter_map result_err (read_batch schema (item + 1) lines) ≡ [] → length (filter_map result_ok (read_batch schema (item + 1) lines)) ≡ length lines)
        → filter_map result_err (read ∷ read_batch schema (item + 1) lines) ≡ []
        → length (filter_map result_ok (read ∷ read_batch schema (item + 1) lines)) ≡ suc (length lines)
    by_read (Ok message) others here = ap suc (others here)
    by_read (Err refusal) others here = absurd cc

-- a batch that is not refused has a message for each of its records
pub length-batch : (schema : Schema) (items : List Item) → lowest (batch_refusals schema items) ≡ None → length (messages_of schema items) ≡ length items
length-batch schema items none =
    length-read schema 1 items (no_first (filter_map result_err (read_batch schema 1 items)) _ (none_at_all (batch_refusals schema items) none))

pub length-sorted_batch : (batch : RowMessages) → length (sorted_batch batch) ≡ length batch
length-sorted_batch batch = let e : length (sorted_batch batch) ≡ length batch + 0 = length-with_messages batch [] in omega (arith, e)

-- ---- values that were checked

-- a row that is not refused fits
pub checked_fits : (columns : List Column) (item : ℕ) (row : List Value) → checked_as columns item row ≡ Ok tt → fit_columns columns row ≡ true
checked_fits columns item row is = by_length (length row == length columns) (fit_columns columns row) is
  where
    by_length : (same fits : Bool)
        → ◌≡◌ {A = Result (Unit {0}) Refusal} (if same then (if fits then Ok tt else Err (BadField item)) else Err (BadLength item)) (Ok tt) → fits ≡ true
    by_length true true here = refl
    by_length true false here = absurd cc
    by_length false fits here = absurd cc

-- an operation that has no fault as one item has none as another
module _ (schema : Schema) (item other : ℕ) where
  no_set_fault : (new : Value) (kind : Option Kind) → set_fault item new kind ≡ None → set_fault other new kind ≡ None
  no_set_fault new None is = absurd cc
  no_set_fault new (Some kind) is = by_fit (fits_kind kind new) is
    where
      by_fit : (fits : Bool) → ◌≡◌ {A = Option Refusal} (if fits then None else Some (BadField item)) None
          → ◌≡◌ {A = Option Refusal} (if fits then None else Some (BadField other)) None
      by_fit true here = refl
      by_fit false here = absurd cc

  no_fault : (action : Action) → action_fault schema item action ≡ None → action_fault schema other action ≡ None
  no_fault (Sets place new) is = no_set_fault new (open_kind schema place) is
  no_fault (Makes arithmetic place n) is = is

faultless : (schema : Schema) (item : ℕ) (ops : List Op) → filter_map (fault_of schema item) ops ≡ [] → OpsFit schema ops
faultless schema item [] none = tt
faultless schema item (op ∷ ops) none = by_fault (fault_of schema item op) (faultless schema item ops) refl none
  where
    by_fault : (fault : Option Refusal) → (filter_map (fault_of schema item) ops ≡ [] → OpsFit schema ops) → fault_of schema item op ≡ fault
        → cons_option fault (filter_map (fault_of schema item) ops) ≡ [] → OpsFit schema (op ∷ ops)
    by_fault None others is rest = (λ other. no_fault schema item other (action_of op) is, others rest)
    by_fault (Some fault) others is rest = absurd cc

-- operations that are not refused fit
pub checked_ops_fit : (schema : Schema) (item : ℕ) (ops : List Op) → checked_ops schema item ops ≡ Ok tt → OpsFit schema ops
checked_ops_fit schema item ops is = by_count (nat_le 1 (length ops) && nat_le (length ops) most_ops) (lowest (filter_map (fault_of schema item) ops)) refl is
  where
    by_count : (few : Bool) (fault : Option Refusal) → lowest (filter_map (fault_of schema item) ops) ≡ fault
        → ◌≡◌ {A = Result (Unit {0}) Refusal} (if few then unless fault tt else Err (BadLength item)) (Ok tt) → OpsFit schema ops
    by_count true None none here = faultless schema item ops (none_at_all (filter_map (fault_of schema item) ops) none)
    by_count true (Some fault) none here = absurd cc
    by_count false fault none here = absurd cc

-- two checks that both pass
pub both_pass : (first second : Result (Unit {0}) Refusal) → both_checked first second ≡ Ok tt → (first ≡ Ok tt) × (second ≡ Ok tt)
both_pass (Ok one) (Ok other) is = (refl, refl)
both_pass (Ok one) (Err refusal) is = absurd cc
both_pass (Err refusal) (Ok other) is = absurd cc
both_pass (Err refusal) (Err other) is = absurd cc

-- ---- changes that were checked

pub put_is_of_schema : (schema : Schema) (item : ℕ) (row : List Value) → checked_as schema.columns item row ≡ Ok tt → AreInRange row
    → IsOfSchema schema (put_of schema.keys row)
put_is_of_schema schema item row is range = put_of_schema schema row (checked_fits schema.columns item row is) range

pub ups_is_of_schema : (schema : Schema) (item : ℕ) (key : List Value) (ops : List Op)
    → both_checked (checked_key schema item key) (checked_ops schema item ops) ≡ Ok tt → AreInRange key → OpsInRange ops
    → IsOfSchema schema (ups_of schema (key, ops))
ups_is_of_schema schema item key ops is key_range range =
    let both = both_pass (checked_key schema item key) (checked_ops schema item ops) is in
    ups_of_schema schema key ops (checked_fits (take schema.keys schema.columns) item key both.0) key_range (checked_ops_fit schema item ops both.1) range
