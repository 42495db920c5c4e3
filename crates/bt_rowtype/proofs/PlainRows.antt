-- Rows and upserts of plain fields. Serves reading a line in one pass.
use Rattle.std.proofs.Common.{ℕ, zero, suc, Bool, List, [], ◌∷◌, ◌++◌, ◌≡◌, ◌<◌, ◌≤◌, ◌+◌, ◌-◌, ◌*◌, ◌==◌, ◌&&◌, ◌∙◌, refl, ap, sym, arith}
use Rattle.std.proofs.Common.{true, false, drop, get_or, length, length-drop, nat_le, ◌%◌, Ok, Err, Result, take, Some, if◌then◌else◌}
use Rattle.std.proofs.lemmas.Bool.{le-leb}
use Rattle.std.proofs.lemmas.List.{append-nil, length-take-le, take-append-drop, take_all, take_more}
use Rattle.std.specs.List.{list_any}
use Rattle.std.specs.Prelude.{is_some}
use Rattle.bt_record.specs.Records.{csv_record, fields_in}
use Rattle.bt_value.specs.Results.{all_read, both_read, or_refused}
use Rattle.bt_row.specs.Ops.{is_upsert, key_as, most_ops, op_of, ops_as, ops_of, upsert_as}
use Rattle.bt_row.specs.Schemas.{Schema, values_of}
use Rattle.bt_value.specs.Values.{value_of}
use Rattle.bt_row.specs.declared.operations.op.Op.{Op}
use Rattle.bt_value.specs.declared.refusal.Refusal.TheVariants.{BadField, BadLength}
use Rattle.bt_value.specs.declared.refusal.Refusal.{Refusal}
use Rattle.bt_value.proofs.offered.Tests.{both_true}
use Rattle.bt_row.specs.declared.rows.schema.Column.{Column}
use Rattle.bt_value.specs.declared.value.Value.{Value}
use Rattle.bt_value.specs.PlainFields.{EndsPlain, fields_from, is_special, parts_of}
use Rattle.bt_rowtype.specs.inside.PlainRows.{HasRead}
use Rattle.bt_rowtype.proofs.Columnwise.{values_more}
use Rattle.bt_record.proofs.offered.PlainTexts.{plain_text}
use Rattle.bt_value.proofs.offered.PlainFields.{next_cut, next_plain, none_from}

-- if a list from a place on begins with an item, then one more place takes this item, and drops it
item_at : {A : Type 0} (xs : List A) (i : ℕ) (x : A) (ys : List A) → drop i xs ≡ x ∷ ys → (take (suc i) xs ≡ take i xs ++ x ∷ []) × (drop (suc i) xs ≡ ys)
item_at [] zero x ys is = absurd cc
item_at [] (suc i) x ys is = absurd cc
item_at (z ∷ zs) zero x ys is = let first : z ≡ x = cc in let rest : zs ≡ ys = cc in (rw first refl, rest)
item_at (z ∷ zs) (suc i) x ys is = let later = item_at zs i x ys is in (ap (λ l. z ∷ l) later.0, later.1)

-- the first fields encode a row, and the other fields begin at this place
pub record ReadTo (columns : List Column) (text : List ℕ) (row : List Value) (i at : ℕ) : Type 0 where
  pub values : values_of (take i columns) (take i (parts_of text)) ≡ Some row
  pub others : drop i (parts_of text) ≡ fields_from at text
  pub plain : list_any is_special text ≡ list_any is_special (drop at text)

-- nothing was read
pub read_none : (columns : List Column) (text : List ℕ) (row : List Value) → row ≡ [] → ReadTo columns text row 0 0
read_none columns text row none =
    let some : nat_le 0 (length text) ≡ true = le-leb 0 (length text) (omega arith) in
    record { values = ap Some (sym none); others = sym (ap (λ (b : Bool). if b then parts_of text else []) some); plain = refl }

-- the field of a column, between its place in a text and its end, encodes a value
pub record EncodesValue (columns : List Column) (text : List ℕ) (i at end : ℕ) (v : Value) : Type 0 where
  pub column : Column
  pub inside : i < length columns
  pub is_column : get_or columns i column ≡ column
  pub within : at ≤ length text
  pub ends : EndsPlain (drop at text) end
  pub value : value_of column.kind (take end (drop at text)) ≡ Some v

-- one more field that encodes a value
pub read_more : {columns : List Column} {text : List ℕ} {row : List Value} {i at end : ℕ} {v : Value} → ReadTo columns text row i at
    → EncodesValue columns text i at end v → ReadTo columns text (row ++ v ∷ []) (i + 1) (at + (end + 1))
read_more {columns} {text} {row} {i} {at} {end} {v} so_far next =
    let parts = parts_of text in
    let field = take end (drop at text) in
    let e : i + 1 ≡ suc i = omega arith in
    let here = item_at parts i field (fields_from (at + (end + 1)) text) (so_far.others ∙ next_cut text (drop at text) at end next.within refl next.ends) in
    let first : take (i + 1) columns ≡ take i columns ++ next.column ∷ [] = take_more columns i next.column next.inside ∙ ap (λ (c : Column). take i columns ++ c ∷ []) next.is_column in
    let fields : take (i + 1) parts ≡ take i parts ++ field ∷ [] = ap (λ n. take n parts) e ∙ here.0 in
    record {
      values = rw (first, fields) (values_more (take i columns) (take i parts) row next.column field v so_far.values next.value);
      others = ap (λ n. drop n parts) e ∙ here.1;
      plain = so_far.plain ∙ next_plain text (drop at text) at end refl next.ends;
    }

-- all columns were read
pub read_columns : (columns : List Column) (text : List ℕ) (row : List Value) (i at : ℕ) → ReadTo columns text row i at → i ≡ length columns → HasRead columns text row at
read_columns columns text row i at so_far all = record {
  values = ap (λ (l : List Column). values_of l (take (length columns) (parts_of text))) (sym (take_all (length columns) columns (omega arith)))
      ∙ ap (λ n. values_of (take n columns) (take n (parts_of text))) (sym all) ∙ so_far.values;
  others = ap (λ n. drop n (parts_of text)) (sym all) ∙ so_far.others;
  plain = so_far.plain;
}

-- all fields were read
pub row_read : (columns : List Column) (text : List ℕ) (row : List Value) (at : ℕ) → HasRead columns text row at → length text < at
    → is_some (csv_record text) ≡ true → values_of columns (fields_in text) ≡ Some row
row_read columns text row at read past found =
    let none = none_from text at past in
    let parts = parts_of text in
    let whole : take (length columns) parts ≡ parts =
    sym (append-nil (take (length columns) parts)) ∙ ap (λ (l : List (List ℕ)). take (length columns) parts ++ l) (sym (read.others ∙ none.0))
    ∙ take-append-drop (length columns) parts in
    ap (values_of columns) (plain_text text found (read.plain ∙ none.1)) ∙ ap (values_of columns) (sym whole) ∙ read.values

-- ---- an upsert of plain fields

-- the fields of a text from a place on are plain, and encode one operation
pub record EncodesOp (schema : Schema) (item : ℕ) (text : List ℕ) (at : ℕ) (op : Op) : Type 0 where
  pub word : List ℕ
  pub name : List ℕ
  pub argument : List ℕ
  pub fields : fields_from at text ≡ word ∷ name ∷ argument ∷ []
  pub plain : list_any is_special (drop at text) ≡ false
  pub read : op_of schema item word name argument ≡ Ok op

pub upsert_read : {schema : Schema} {item : ℕ} {text : List ℕ} {row : List Value} {at : ℕ} {op : Op} → schema.keys ≤ length schema.columns
    → HasRead (take schema.keys schema.columns) text row at → EncodesOp schema item text at op → is_some (csv_record text) ≡ true
    → upsert_as schema item (fields_in text) ≡ Ok (row, op ∷ [])
upsert_read {schema} {item} {text} {row} {at} {op} within read group found =
    let keys = schema.keys in
    let columns = schema.columns in
    let parts = parts_of text in
    let same : fields_in text ≡ parts = plain_text text found (read.plain ∙ group.plain) in
    let size : length (take keys columns) ≡ keys = length-take-le keys columns within in
    let three : drop keys parts ≡ group.word ∷ group.name ∷ group.argument ∷ [] = ap (λ k. drop k parts) (sym size) ∙ read.others ∙ group.fields in
    let long : length parts ≡ keys + 3 = omega (arith, ap length three, length-drop keys parts) in
    let least_long : nat_le (keys + 3) (length parts) ≡ true = le-leb (keys + 3) (length parts) (omega (arith, long)) in
    let most_long : nat_le (length parts) (keys + 3 * most_ops) ≡ true = le-leb (length parts) (keys + 3 * most_ops) (omega (arith, long)) in
    let over : length parts - keys ≡ 3 = omega (arith, long) in
    let threes : ((length parts - keys) % 3 == 0) ≡ true = ap (λ m. (m % 3) == 0) over in
    let test : is_upsert keys (length parts) ≡ true =
    both_true (nat_le (keys + 3) (length parts) && nat_le (length parts) (keys + 3 * most_ops)) ((length parts - keys) % 3 == 0)
    (both_true (nat_le (keys + 3) (length parts)) (nat_le (length parts) (keys + 3 * most_ops)) least_long most_long) threes in
    let key : key_as schema item parts ≡ Ok row = ap (or_refused (BadField item)) (ap (λ k. values_of (take keys columns) (take k parts)) (sym size) ∙ read.values) in
    let ops : ops_as schema item parts ≡ Ok (op ∷ []) =
    ap (λ (b : Bool). if b then all_read (ops_of schema item (drop keys parts)) else Err (BadLength item)) test ∙ ap (λ (l : List (List ℕ)). all_read (ops_of schema item l)) three
    ∙ ap (λ (o : Result Op Refusal). all_read (o ∷ [])) group.read in
    ap (upsert_as schema item) same ∙ ap (λ (b : Bool). if b then both_read (key_as schema item parts) (ops_as schema item parts) else Err (BadLength item)) test
    ∙ ap (λ (k : Result (List Value) Refusal). both_read k (ops_as schema item parts)) key ∙ ap (λ (o : Result (List Op) Refusal). both_read {S = List Value} (Ok row) o) ops
