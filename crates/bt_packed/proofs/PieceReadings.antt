-- Changes that are read in pieces are those that are read in one go. Serves the crew that reads them.
use Rattle.std.proofs.Common.{ℕ, zero, suc, ◌+◌, ◌-◌, ◌≡◌, ◌∙◌, ◌++◌, ◌∷◌, ◌==◌, ◌&&◌, Bool, true, false, ℤ, List, [], Option, Some, None, Result, Ok, Err}
use Rattle.std.proofs.Common.{ap, append-nil, append_assoc, arith, drop, length, map, nat_le, refl, subst, sym, take, if◌then◌else◌}
use Rattle.std.proofs.lemmas.List.{drop_all}
use Rattle.std.specs.Cmp.Lexicographic.{pointwise, same_text}
use Rattle.std.specs.List.{cons_option, filter_map}
use Rattle.std.specs.Prelude.{IfSome, slice_get}
use lib.ListN.{get_elem?}
use mathlib.Core.Option.{some}
use Rattle.bt_value.specs.Lists.{concatenation}
use Rattle.bt_value.specs.Refusals.{lowest}
use Rattle.bt_value.specs.Results.{map_ok, unless}
use Rattle.bt_value.specs.declared.refusal.Refusal.{Refusal}
use Rattle.bt_value.specs.declared.refusal.Refusal.TheVariants.{BadField, BadLength}
use Rattle.bt_value.specs.declared.value.Value.{Value}
use Rattle.bt_row.specs.Arithmetic.{op_making}
use Rattle.bt_row.specs.Fits.{OpsFit}
use Rattle.bt_row.specs.Ops.{checked_ops, fault_of, most_ops}
use Rattle.bt_row.specs.Schemas.{Schema, checked_as, fit_columns}
use Rattle.bt_row.specs.declared.operations.op.Arithmetic.{Arithmetic}
use Rattle.bt_row.specs.declared.operations.op.Op.{Op}
use Rattle.bt_row.specs.declared.operations.op.Op.TheVariants as op
use Rattle.bt_row.specs.declared.rows.schema.Column.{Column}
use Rattle.bt_message.specs.Messages.{sorted_batch}
use Rattle.bt_messages.proofs.offered.Pieces.{sorted_batch-pieces}
use Rattle.bt_batch.specs.Batches.{KeyedMessage, RowMessages, del_of, put_of, ups_of}
use Rattle.bt_batch.specs.Changes.{AreOfSchema, Changes, both_checked, checked_key, next_item, no_changes, with_change}
use Rattle.bt_batch.proofs.offered.OfSchema.{both_pass, checked_ops_fit, sorted_of_schema}
use Rattle.bt_packed.specs.Changes.{allowed, arithmetic_of, change_at, changes_from, changes_under, del_at, followed, key_at, make_at}
use Rattle.bt_packed.specs.Changes.{op_at, ops_at, ops_from, packed_messages, put_at, read_op, set_at, unless_refused, ups_at}
use Rattle.bt_packed.specs.Layout.{Read, bad_bytes, header_at, int_at, on_ok, or_fault, then_read, value_at, values_at, values_from}
use Rattle.bt_packed.specs.Pieces.{AreInRow, ended, reading_of, some_from}
use Rattle.bt_packed.specs.declared.fault.Fault.{Fault}
use Rattle.bt_packed.specs.declared.pieces.ChangePiece.{ChangePiece}

-- ---- what is read as one item is read as another

module _ (i j : ℕ) where
  values_same : (columns : List Column) (place : ℕ) (row : List Value) (bytes : List ℕ) (read : Read (List Value)) → values_from i columns place row bytes ≡ Ok read
      → values_from j columns place row bytes ≡ Ok read
  values_same [] place row bytes read is = is
  values_same (column ∷ columns) place row bytes read is = by_value (λ value. values_same columns (place + 1) (row ++ value.0 ∷ []) value.1 read) (value_at column.kind bytes) is
    where
      by_value : ((value : Read Value) → values_from i columns (place + 1) (row ++ value.0 ∷ []) value.1 ≡ Ok read → values_from j columns (place + 1) (row ++ value.0 ∷ []) value.1 ≡ Ok read)
          → (value : Option (Read Value))
          → then_read (λ read. values_from i columns (place + 1) (row ++ read.0 ∷ []) read.1) (or_fault (bad_bytes i (place + 1)) value) ≡ Ok read
          → then_read (λ read. values_from j columns (place + 1) (row ++ read.0 ∷ []) read.1) (or_fault (bad_bytes j (place + 1)) value) ≡ Ok read
      by_value others None here = absurd cc
      by_value others (Some value) here = others value here

  checked_same : (columns : List Column) (row : List Value) → checked_as columns i row ≡ Ok tt → checked_as columns j row ≡ Ok tt
  checked_same columns row is = by_length (length row == length columns) (fit_columns columns row) is
    where
      by_length : (same fits : Bool)
          → ◌≡◌ {A = Result (Unit {0}) Refusal} (if same then (if fits then Ok tt else Err (BadField i)) else Err (BadLength i)) (Ok tt)
          → ◌≡◌ {A = Result (Unit {0}) Refusal} (if same then (if fits then Ok tt else Err (BadField j)) else Err (BadLength j)) (Ok tt)
      by_length true true here = refl
      by_length true false here = absurd cc
      by_length false fits here = absurd cc

  module _ (schema : Schema) where
    faultless : (ops : List Op) → OpsFit schema ops → filter_map (fault_of schema j) ops ≡ []
    faultless [] fit = refl
    faultless (one ∷ ops) fit = ap (λ fault. cons_option fault (filter_map (fault_of schema j) ops)) (fit.0 j) ∙ faultless ops fit.1

    ops_checked_same : (ops : List Op) → checked_ops schema i ops ≡ Ok tt → checked_ops schema j ops ≡ Ok tt
    ops_checked_same ops is = by_count (nat_le 1 (length ops) && nat_le (length ops) most_ops) is
      where
        by_count : (few : Bool)
            → ◌≡◌ {A = Result (Unit {0}) Refusal} (if few then unless (lowest (filter_map (fault_of schema i) ops)) tt else Err (BadLength i)) (Ok tt)
            → ◌≡◌ {A = Result (Unit {0}) Refusal} (if few then unless (lowest (filter_map (fault_of schema j) ops)) tt else Err (BadLength j)) (Ok tt)
        by_count true here = ap (λ faults. unless (lowest faults) tt) (faultless ops (checked_ops_fit schema i ops is))
        by_count false here = absurd cc

    read_op_same : (code place : ℕ) (bytes : List ℕ) (read : Read Op) → read_op schema i code place bytes ≡ Ok read → read_op schema j code place bytes ≡ Ok read
    read_op_same code place bytes read is = by_code (code == 0) (slice_get schema.columns place) (arithmetic_of code) is
      where
        by_value : (value : Option (Read Value)) → then_read (λ read. Ok (op.Set place read.0, read.1)) (or_fault (bad_bytes i (place + 1)) value) ≡ Ok read
            → then_read (λ read. Ok (op.Set place read.0, read.1)) (or_fault (bad_bytes j (place + 1)) value) ≡ Ok read
        by_value None here = absurd cc
        by_value (Some value) here = here

        by_number : (arithmetic : Arithmetic) (number : Option (Read ℤ))
            → then_read (λ read. Ok (op_making arithmetic place read.0, read.1)) (or_fault (bad_bytes i (place + 1)) number) ≡ Ok read
            → then_read (λ read. Ok (op_making arithmetic place read.0, read.1)) (or_fault (bad_bytes j (place + 1)) number) ≡ Ok read
        by_number arithmetic None here = absurd cc
        by_number arithmetic (Some number) here = here

        by_code : (sets : Bool) (column : Option Column) (arithmetic : Option Arithmetic)
            → (if sets then set_at i place column bytes else make_at i place arithmetic bytes) ≡ Ok read
            → (if sets then set_at j place column bytes else make_at j place arithmetic bytes) ≡ Ok read
        by_code true None arithmetic here = absurd cc
        by_code true (Some column) arithmetic here = by_value (value_at column.kind bytes) here
        by_code false column None here = absurd cc
        by_code false column (Some arithmetic) here = by_number arithmetic (int_at bytes) here

    allowed_same : (place : ℕ) (one read : Read Op) → allowed schema i place one ≡ Ok read → allowed schema j place one ≡ Ok read
    allowed_same place one read is = by_check (checked_ops schema i (one.0 ∷ [])) refl is
      where
        by_check : (check : Result (Unit {0}) Refusal) → checked_ops schema i (one.0 ∷ []) ≡ check → unless_refused i place one check ≡ Ok read
            → unless_refused j place one (checked_ops schema j (one.0 ∷ [])) ≡ Ok read
        by_check (Ok fits) found here = ap (unless_refused j place one) (ops_checked_same (one.0 ∷ []) found) ∙ here
        by_check (Err refusal) found here = absurd cc

    op_same : (bytes : List ℕ) (read : Read Op) → op_at schema i bytes ≡ Ok read → op_at schema j bytes ≡ Ok read
    op_same [] read is = absurd cc
    op_same (code ∷ []) read is = absurd cc
    op_same (code ∷ place ∷ bytes) read is = by_read (read_op schema i code place bytes) refl is
      where
        by_read : (found : Result (Read Op) Fault) → read_op schema i code place bytes ≡ found → then_read (allowed schema i place) found ≡ Ok read
            → then_read (allowed schema j place) (read_op schema j code place bytes) ≡ Ok read
        by_read (Ok one) found here = ap (then_read (allowed schema j place)) (read_op_same code place bytes one found) ∙ allowed_same place one read here
        by_read (Err fault) found here = absurd cc

    ops_from_same : (count : ℕ) (ops : List Op) (bytes : List ℕ) (read : Read (List Op)) → ops_from schema i count ops bytes ≡ Ok read
        → ops_from schema j count ops bytes ≡ Ok read
    ops_from_same zero ops bytes read is = is
    ops_from_same (suc more) ops bytes read is = by_op (λ one. ops_from_same more (ops ++ one.0 ∷ []) one.1 read) (op_at schema i bytes) refl is
      where
        by_op : ((one : Read Op) → ops_from schema i more (ops ++ one.0 ∷ []) one.1 ≡ Ok read → ops_from schema j more (ops ++ one.0 ∷ []) one.1 ≡ Ok read)
            → (found : Result (Read Op) Fault) → op_at schema i bytes ≡ found → then_read (λ read. ops_from schema i more (ops ++ read.0 ∷ []) read.1) found ≡ Ok read
            → then_read (λ read. ops_from schema j more (ops ++ read.0 ∷ []) read.1) (op_at schema j bytes) ≡ Ok read
        by_op others (Ok one) found here = ap (then_read (λ read. ops_from schema j more (ops ++ read.0 ∷ []) read.1)) (op_same bytes one found) ∙ others one here
        by_op others (Err fault) found here = absurd cc

    ops_same : (bytes : List ℕ) (read : Read (List Op)) → ops_at schema i bytes ≡ Ok read → ops_at schema j bytes ≡ Ok read
    ops_same [] read is = absurd cc
    ops_same (count ∷ bytes) read is = ops_from_same count [] bytes read is

-- ---- what is read after some changes is read after others

module _ (schema : Schema) where
  abbrev with : RowMessages → Changes
  with messages = record { schema = schema; messages = messages }

  -- one message is added, with these bytes after it, whatever the messages before it
  abbrev AddsOne : RowMessages → RowMessages → (Changes → List ℕ → Result (Read Changes) Fault) → List ℕ → Type 0
  AddsOne ms ns at bytes = (message : KeyedMessage) × ((rest : List ℕ) × (at (with ms) bytes ≡ Ok (with (ms ++ message ∷ []), rest)) × (at (with ns) bytes ≡ Ok (with (ns ++ message ∷ []), rest)))

  module _ (ms ns : RowMessages) where
    abbrev i : ℕ
    i = next_item (with ms)

    abbrev j : ℕ
    j = next_item (with ns)

    put_same : (bytes : List ℕ) (read : Read Changes) → put_at (with ms) bytes ≡ Ok read → AddsOne ms ns put_at bytes
    put_same bytes read is = by_values (values_at i schema.columns bytes) refl is
      where
        next : (ℓ : RowMessages) → Read (List Value) → Result (Read Changes) Fault
        next ℓ values =
            followed (next_item (with ℓ)) values.1 (map_ok (with_change (with ℓ)) (map_ok (λ _. put_of schema.keys values.0) (checked_as schema.columns (next_item (with ℓ)) values.0)))

        by_check : (values : Read (List Value)) → values_at i schema.columns bytes ≡ Ok values → (check : Result (Unit {0}) Refusal) → checked_as schema.columns i values.0 ≡ check
            → followed i values.1 (map_ok (with_change (with ms)) (map_ok (λ _. put_of schema.keys values.0) check)) ≡ Ok read → AddsOne ms ns put_at bytes
        by_check values found (Ok fits) checked here = (
          put_of schema.keys values.0,
          (
            values.1,
            ap (then_read (next ms)) found ∙ ap (λ c. followed i values.1 (map_ok (with_change (with ms)) (map_ok (λ _. put_of schema.keys values.0) c))) checked,
            ap (then_read (next ns)) (values_same i j schema.columns 0 [] bytes values found)
                ∙ ap (λ c. followed j values.1 (map_ok (with_change (with ns)) (map_ok (λ _. put_of schema.keys values.0) c))) (checked_same i j schema.columns values.0 checked),
          ),
        )
        by_check values found (Err refusal) checked here = absurd cc

        by_values : (values : Result (Read (List Value)) Fault) → values_at i schema.columns bytes ≡ values → then_read (next ms) values ≡ Ok read → AddsOne ms ns put_at bytes
        by_values (Ok values) found here = by_check values found (checked_as schema.columns i values.0) refl here
        by_values (Err fault) found here = absurd cc

    del_same : (bytes : List ℕ) (read : Read Changes) → del_at (with ms) bytes ≡ Ok read → AddsOne ms ns del_at bytes
    del_same bytes read is = by_key (key_at schema i bytes) refl is
      where
        next : (ℓ : RowMessages) → Read (List Value) → Result (Read Changes) Fault
        next ℓ key = followed (next_item (with ℓ)) key.1 (map_ok (with_change (with ℓ)) (map_ok (λ _. del_of key.0) (checked_key schema (next_item (with ℓ)) key.0)))

        by_check : (key : Read (List Value)) → key_at schema i bytes ≡ Ok key → (check : Result (Unit {0}) Refusal) → checked_key schema i key.0 ≡ check
            → followed i key.1 (map_ok (with_change (with ms)) (map_ok (λ _. del_of key.0) check)) ≡ Ok read → AddsOne ms ns del_at bytes
        by_check key found (Ok fits) checked here = (
          del_of key.0,
          (
            key.1,
            ap (then_read (next ms)) found ∙ ap (λ c. followed i key.1 (map_ok (with_change (with ms)) (map_ok (λ _. del_of key.0) c))) checked,
            ap (then_read (next ns)) (values_same i j (take schema.keys schema.columns) 0 [] bytes key found)
                ∙ ap (λ c. followed j key.1 (map_ok (with_change (with ns)) (map_ok (λ _. del_of key.0) c))) (checked_same i j (take schema.keys schema.columns) key.0 checked),
          ),
        )
        by_check key found (Err refusal) checked here = absurd cc

        by_key : (key : Result (Read (List Value)) Fault) → key_at schema i bytes ≡ key → then_read (next ms) key ≡ Ok read → AddsOne ms ns del_at bytes
        by_key (Ok key) found here = by_check key found (checked_key schema i key.0) refl here
        by_key (Err fault) found here = absurd cc

    ups_same : (bytes : List ℕ) (read : Read Changes) → ups_at (with ms) bytes ≡ Ok read → AddsOne ms ns ups_at bytes
    ups_same bytes read is = by_key (key_at schema i bytes) refl is
      where
        check : (ℓ : RowMessages) → List Value → List Op → Result (Unit {0}) Refusal
        check ℓ key ops = both_checked (checked_key schema (next_item (with ℓ)) key) (checked_ops schema (next_item (with ℓ)) ops)

        with_ops : (ℓ : RowMessages) → List Value → Read (List Op) → Result (Unit {0}) Refusal → Result (Read Changes) Fault
        with_ops ℓ key ops c = followed (next_item (with ℓ)) ops.1 (map_ok (with_change (with ℓ)) (map_ok (λ _. ups_of schema (key, ops.0)) c))

        with_key : (ℓ : RowMessages) → Read (List Value) → Result (Read (List Op)) Fault → Result (Read Changes) Fault
        with_key ℓ key ops = then_read (λ ops. with_ops ℓ key.0 ops (check ℓ key.0 ops.0)) ops

        next : (ℓ : RowMessages) → Read (List Value) → Result (Read Changes) Fault
        next ℓ key = with_key ℓ key (ops_at schema (next_item (with ℓ)) key.1)

        checks_same : (key : List Value) (ops : List Op) → check ms key ops ≡ Ok tt → check ns key ops ≡ Ok tt
        checks_same key ops passed =
            let both = both_pass (checked_key schema i key) (checked_ops schema i ops) passed in
            ap (λ c. both_checked c (checked_ops schema j ops)) (checked_same i j (take schema.keys schema.columns) key both.0)
            ∙ ap (both_checked (Ok tt)) (ops_checked_same i j schema ops both.1)

        by_check : (key : Read (List Value)) → key_at schema i bytes ≡ Ok key → (ops : Read (List Op)) → ops_at schema i key.1 ≡ Ok ops → (c : Result (Unit {0}) Refusal)
            → check ms key.0 ops.0 ≡ c → with_ops ms key.0 ops c ≡ Ok read → AddsOne ms ns ups_at bytes
        by_check key found ops read_ops (Ok fits) checked here = (
          ups_of schema (key.0, ops.0),
          (
            ops.1,
            ap (then_read (next ms)) found ∙ ap (with_key ms key) read_ops ∙ ap (with_ops ms key.0 ops) checked,
            ap (then_read (next ns)) (values_same i j (take schema.keys schema.columns) 0 [] bytes key found) ∙ ap (with_key ns key) (ops_same i j schema key.1 ops read_ops)
                ∙ ap (with_ops ns key.0 ops) (checks_same key.0 ops.0 checked),
          ),
        )
        by_check key found ops read_ops (Err refusal) checked here = absurd cc

        by_ops : (key : Read (List Value)) → key_at schema i bytes ≡ Ok key → (ops : Result (Read (List Op)) Fault) → ops_at schema i key.1 ≡ ops → with_key ms key ops ≡ Ok read
            → AddsOne ms ns ups_at bytes
        by_ops key found (Ok ops) read_ops here = by_check key found ops read_ops (check ms key.0 ops.0) refl here
        by_ops key found (Err fault) read_ops here = absurd cc

        by_key : (key : Result (Read (List Value)) Fault) → key_at schema i bytes ≡ key → then_read (next ms) key ≡ Ok read → AddsOne ms ns ups_at bytes
        by_key (Ok key) found here = by_ops key found (ops_at schema i key.1) refl here
        by_key (Err fault) found here = absurd cc

    change_same : (bytes : List ℕ) (read : Read Changes) → change_at (with ms) bytes ≡ Ok read → AddsOne ms ns change_at bytes
    change_same [] read is = absurd cc
    change_same (code ∷ bytes) read is = by_code (code == 0) (code == 1) (code == 2) is
      where
        at : Bool → Bool → Bool → Changes → Result (Read Changes) Fault
        at puts dels upserts changes =
            if puts then put_at changes bytes else if dels then del_at changes bytes else if upserts then ups_at changes bytes else Err (bad_bytes (next_item changes) 0)

        by_code : (puts dels upserts : Bool) → at puts dels upserts (with ms) ≡ Ok read → AddsOne ms ns (λ changes bytes. at puts dels upserts changes) bytes
        by_code true dels upserts here = put_same bytes read here
        by_code false true upserts here = del_same bytes read here
        by_code false false true here = ups_same bytes read here
        by_code false false false here = absurd cc

  -- messages are added, with these bytes after them, whatever the messages before them
  abbrev AddsSome : RowMessages → RowMessages → ℕ → List ℕ → Type 0
  AddsSome ms ns count bytes =
      (added : RowMessages)
      × ((rest : List ℕ) × (some_from count (with ms, bytes) ≡ Ok (with (ms ++ added), rest)) × (some_from count (with ns, bytes) ≡ Ok (with (ns ++ added), rest)))

  some_same : (count : ℕ) (ms ns : RowMessages) (bytes : List ℕ) (read : Read Changes) → some_from count (with ms, bytes) ≡ Ok read → AddsSome ms ns count bytes
  some_same zero ms ns bytes read is = ([], (bytes, ap (λ l. Ok (with l, bytes)) (sym (append-nil ms)), ap (λ l. Ok (with l, bytes)) (sym (append-nil ns))))
  some_same (suc more) ms ns bytes read is =
      by_change (λ message after. some_same more (ms ++ message ∷ []) (ns ++ message ∷ []) after read) (change_at (with ms) bytes) refl is
    where
      by_change : ((message : KeyedMessage) (after : List ℕ) → some_from more (with (ms ++ message ∷ []), after) ≡ Ok read → AddsSome (ms ++ message ∷ []) (ns ++ message ∷ []) more after)
          → (found : Result (Read Changes) Fault) → change_at (with ms) bytes ≡ found → then_read (some_from more) found ≡ Ok read → AddsSome ms ns (suc more) bytes
      by_change again (Ok one) found here =
          let first = change_same ms ns bytes one found in
          let message = first.0 in
          let after = first.1.0 in
          let here_after : some_from more (with (ms ++ message ∷ []), after) ≡ Ok read = ap (then_read (some_from more)) (sym first.1.1 ∙ found) ∙ here in
          let others = again message after here_after in (
            message ∷ others.0,
            (
              others.1.0,
              ap (then_read (some_from more)) first.1.1 ∙ others.1.1 ∙ ap (λ l. Ok (with l, others.1.0)) (append_assoc ms (message ∷ []) others.0),
              ap (then_read (some_from more)) first.1.2 ∙ others.1.2 ∙ ap (λ l. Ok (with l, others.1.0)) (append_assoc ns (message ∷ []) others.0),
            ),
          )
      by_change again (Err fault) found here = absurd cc

-- some changes, and then others
changes_split : (count more : ℕ) (read : Read Changes) → changes_from (count + more) read ≡ then_read (changes_from more) (some_from count read)
changes_split zero more read = let same : 0 + more ≡ more = omega arith in ap (λ n. changes_from n read) same
changes_split (suc count) more read =
    let next : suc count + more ≡ suc (count + more) = omega arith in
    ap (λ n. changes_from n read) next ∙ by_change (changes_split count more) (change_at read.0 read.1)
  where
    by_change : ((one : Read Changes) → changes_from (count + more) one ≡ then_read (changes_from more) (some_from count one)) → (one : Result (Read Changes) Fault)
        → then_read (changes_from (count + more)) one ≡ then_read (changes_from more) (then_read (some_from count) one)
    by_change again (Ok one) = again one
    by_change again (Err fault) = refl

-- ---- pieces

head_is : {A : Type 0} {x y : A} {xs ys : List A} → ◌≡◌ {A = List A} (x ∷ xs) (y ∷ ys) → x ≡ y
head_is is = cc

others_are : {A : Type 0} {x y : A} {xs ys : List A} → ◌≡◌ {A = List A} (x ∷ xs) (y ∷ ys) → xs ≡ ys
others_are is = cc

value_is : {A E : Type 0} {x y : A} → ◌≡◌ {A = Result A E} (Ok x) (Ok y) → x ≡ y
value_is is = cc

there_is : {A : Type 0} {x y : A} → ◌≡◌ {A = Option A} (Some x) (Some y) → x ≡ y
there_is is = cc

module _ (schema : Schema) (bytes : List ℕ) where
  -- a piece that was read adds its messages, and ends where the piece does
  abbrev IsRead : ChangePiece → RowMessages → RowMessages → Type 0
  IsRead piece packet ns =
      (added : RowMessages) × (some_from piece.count (with schema ns, drop piece.start bytes) ≡ Ok (with schema (ns ++ added), drop piece.end bytes)) × (packet ≡ sorted_batch added)

  piece_read : (piece : ChangePiece) (packet ns : RowMessages) → reading_of schema bytes piece ≡ Some packet → IsRead piece packet ns
  piece_read piece packet ns is = by_read (some_from piece.count (no_changes schema, drop piece.start bytes)) refl is
    where
      by_end : (read : Read Changes) → some_from piece.count (no_changes schema, drop piece.start bytes) ≡ Ok read → (same : Bool) → pointwise ◌==◌ read.1 (drop piece.end bytes) ≡ same
          → (if same then Some (sorted_batch read.0.messages) else None) ≡ Some packet → IsRead piece packet ns
      by_end read found true same here =
          let both = some_same schema piece.count [] ns (drop piece.start bytes) read found in
          let is_read : read ≡ (with schema both.0, both.1.0) = value_is (sym found ∙ both.1.1) in
          let ends : both.1.0 ≡ drop piece.end bytes = ap (λ (r : Read Changes). r.1) (sym is_read) ∙ same_text read.1 (drop piece.end bytes) (sym same) in
          (both.0, both.1.2 ∙ ap (λ rest. Ok (with schema (ns ++ both.0), rest)) ends, sym (there_is here) ∙ ap (λ (r : Read Changes). sorted_batch r.0.messages) is_read)
      by_end read found false same here = absurd cc

      by_read : (found : Result (Read Changes) Fault) → some_from piece.count (no_changes schema, drop piece.start bytes) ≡ found → ended (drop piece.end bytes) found ≡ Some packet
          → IsRead piece packet ns
      by_read (Ok read) found here = by_end read found (pointwise ◌==◌ read.1 (drop piece.end bytes)) refl here
      by_read (Err fault) found here = absurd cc

  -- pieces in a row that were all read have the changes that are read in one go
  abbrev AreRead : ℕ → ℕ → List RowMessages → RowMessages → Type 0
  AreRead start left packets ns = (lists : List RowMessages) × (changes_from left (with schema ns, drop start bytes) ≡ Ok (with schema (ns ++ concatenation lists)))
      × (packets ≡ map sorted_batch lists)

  pieces_read : (pieces : List ChangePiece) (packets : List RowMessages) (start left : ℕ) (ns : RowMessages) → AreInRow start left pieces (length bytes)
      → map (reading_of schema bytes) pieces ≡ map Some packets → AreRead start left packets ns
  pieces_read [] [] start left ns row all = (
    [],
    ap (λ n. changes_from n (with schema ns, drop start bytes)) row.1 ∙ ap (λ rest. changes_from 0 (with schema ns, rest)) (drop_all start bytes (omega (arith, row.0)))
        ∙ ap (λ l. Ok (with schema l)) (sym (append-nil ns)),
    refl,
  )
  pieces_read [] (packet ∷ packets) start left ns row all = absurd cc
  pieces_read (piece ∷ pieces) [] start left ns row all = absurd cc
  pieces_read (piece ∷ pieces) (packet ∷ packets) start left ns row all =
      let own = piece_read piece packet ns (head_is all) in
      let others = pieces_read pieces packets piece.end (left - piece.count) (ns ++ own.0) row.2 (others_are all) in
      let parts : left ≡ piece.count + (left - piece.count) = omega (arith, row.1) in (
        own.0 ∷ others.0,
        ap (λ n. changes_from n (with schema ns, drop start bytes)) parts ∙ ap (λ place. changes_from (piece.count + (left - piece.count)) (with schema ns, drop place bytes)) (sym row.0)
            ∙ changes_split piece.count (left - piece.count) (with schema ns, drop piece.start bytes) ∙ ap (then_read (changes_from (left - piece.count))) own.1 ∙ others.1
            ∙ ap (λ l. Ok (with schema l)) (append_assoc ns own.0 (concatenation others.0)),
        ap (λ p. p ∷ packets) own.2 ∙ ap (λ ps. sorted_batch own.0 ∷ ps) others.2,
      )

  -- the packet of the packets of pieces has the messages that are read in one go
  pub packets_joined : (whole : List ℕ) (pieces : List ChangePiece) (readings : List (Option RowMessages)) (packets : List RowMessages) (packet : RowMessages) (count : ℕ)
      → Some (count, bytes) ≡ header_at whole → AreInRow 0 count pieces (length bytes) → readings ≡ map (reading_of schema bytes) pieces → readings ≡ map Some packets
      → packet ≡ sorted_batch (concatenation packets) → packed_messages schema whole ≡ Ok packet
  packets_joined whole pieces readings packets packet count header row read all joined =
      let parts = pieces_read pieces packets 0 count [] row (sym read ∙ all) in
      ap (λ head. on_ok (λ changes. sorted_batch changes.messages) (changes_under schema head)) (sym header)
      ∙ ap (on_ok (λ changes. sorted_batch changes.messages)) parts.1
      ∙ ap Ok (sym (sorted_batch-pieces parts.0) ∙ ap (λ ps. sorted_batch (concatenation ps)) (sym parts.2) ∙ sym joined)

-- ---- messages of a schema

module _ (schema : Schema) where
  both_of_schema : (ms ns : RowMessages) → AreOfSchema schema ms → AreOfSchema schema ns → AreOfSchema schema (ms ++ ns)
  both_of_schema [] ns all others = others
  both_of_schema (m ∷ ms) ns all others = (all.0, both_of_schema ms ns all.1 others)

  joined_of_schema : (packets : List RowMessages) → ((n : ℕ) (reading : Option RowMessages) → get_elem? (map Some packets) n ≡ some reading → IfSome reading (AreOfSchema schema))
      → AreOfSchema schema (concatenation packets)
  joined_of_schema [] each = tt
  joined_of_schema (packet ∷ packets) each =
      both_of_schema packet (concatenation packets) (each 0 (Some packet) refl) (joined_of_schema packets (λ n reading is. each (suc n) reading is))

  -- the packet of packets that are all of the schema
  pub packet_of_schema : (readings : List (Option RowMessages)) (packets : List RowMessages) (packet : RowMessages) → readings ≡ map Some packets
      → ((n : ℕ) (reading : Option RowMessages) → get_elem? readings n ≡ some reading → IfSome reading (AreOfSchema schema))
      → packet ≡ sorted_batch (concatenation packets) → AreOfSchema schema packet
  packet_of_schema readings packets packet all each joined =
      subst (AreOfSchema schema) (sym joined)
      (sorted_of_schema schema (concatenation packets)
      (joined_of_schema packets (subst (λ rs. (n : ℕ) (reading : Option RowMessages) → get_elem? rs n ≡ some reading → IfSome reading (AreOfSchema schema)) all each)))
