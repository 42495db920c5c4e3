-- What is read fits its columns, and still fits after operations. Serves the invariant of a table.
use Rattle.std.proofs.Common.{ℕ, zero, suc, Bool, List, [], ◌∷◌, ◌++◌, ◌≡◌, ◌==◌, ◌∙◌, refl, ap, subst, true, false, length, take, drop, Option, Some, None, Ok, Err, if◌then◌else◌}
use Rattle.std.specs.List.{filter_map}
use Rattle.std.specs.Prelude.{map}
use Rattle.std.specs.Result.{result_err, result_ok}
use Rattle.bt_row.specs.Ops.{after_op, after_ops, default_row, key_as, ops_as, ops_of, is_upsert, upsert_as}
use Rattle.bt_value.specs.Results.{all_read, both_read, or_refused}
use Rattle.bt_row.specs.Fits.{OpsFit}
use Rattle.bt_value.specs.Refusals.{lowest}
use Rattle.bt_row.specs.Schemas.{Schema, fit_columns, read_as, values_of}
use Rattle.bt_value.specs.Values.{fits_kind, default_of, value_of}
use Rattle.bt_row.specs.declared.operations.op.Op.{Op}
use Rattle.bt_value.specs.declared.refusal.Refusal.TheVariants.{BadField, BadLength}
use Rattle.bt_row.specs.declared.rows.schema.Column.{Column}
use Rattle.bt_value.specs.declared.value.Value.{Value}
use Rattle.bt_value.proofs.offered.Results.{some_read, both_ok, unless_ok}
use Rattle.bt_value.proofs.offered.Tests.{both_true, first_true, second_true}
use Rattle.bt_row.proofs.ReadFits.{groups_fit, with_first_fits}
use Rattle.bt_value.proofs.offered.Kinds.{value_fits}
use Rattle.bt_row.proofs.RowFits.{defaults_fit, joined_fit, op_keeps}

-- ---- what is read

-- the values that fields encode fit the columns
pub values_fit : (columns : List Column) (fields : List (List ℕ)) (row : List Value) → values_of columns fields ≡ Some row → fit_columns columns row ≡ true
values_fit [] [] row is = let e : [] ≡ row = cc in rw (← e) refl
values_fit [] (field ∷ fields) row is = absurd cc
values_fit (column ∷ columns) [] row is = absurd cc
values_fit (column ∷ columns) (field ∷ fields) row is =
    with_first_fits column columns (value_of column.kind field) (values_of columns fields) row (value_fits column.kind field) (λ vs e. values_fit columns fields vs e) is

-- a row that is read fits the columns
pub read_fits : (columns : List Column) (item : ℕ) (fields : List (List ℕ)) (row : List Value) → read_as columns item fields ≡ Ok row → fit_columns columns row ≡ true
read_fits columns item fields row is = by_length (length fields == length columns) (values_of columns fields) refl is
  where
    by_length : (same : Bool) (values : Option (List Value)) → values_of columns fields ≡ values
        → (if same then or_refused (BadField item) values else Err (BadLength item)) ≡ Ok row → fit_columns columns row ≡ true
    by_length false values here is = absurd cc
    by_length true None here is = absurd cc
    by_length true (Some vs) here is = let e : vs ≡ row = cc in values_fit columns fields row (here ∙ ap Some e)

-- the key that the record of an upsert encodes
pub key_fits : (schema : Schema) (item : ℕ) (fields : List (List ℕ)) (key : List Value) → key_as schema item fields ≡ Ok key → fit_columns (take schema.keys schema.columns) key ≡ true
key_fits schema item fields key is =
    let columns = take schema.keys schema.columns in
    let key_fields = take schema.keys fields in
    values_fit columns key_fields key (some_read (BadField item) (values_of columns key_fields) key is)

-- the operations that it encodes
pub ops_fit : (schema : Schema) (item : ℕ) (fields : List (List ℕ)) (ops : List Op) → ops_as schema item fields ≡ Ok ops → OpsFit schema ops
ops_fit schema item fields ops is = by_length (is_upsert schema.keys (length fields)) is
  where
    by_length : (long : Bool) → (if long then all_read (ops_of schema item (drop schema.keys fields)) else Err (BadLength item)) ≡ Ok ops → OpsFit schema ops
    by_length false is = absurd cc
    by_length true is =
        let read = ops_of schema item (drop schema.keys fields) in
        subst (OpsFit schema) (unless_ok (lowest (filter_map result_err read)) (filter_map result_ok read) ops is) (groups_fit schema item (drop schema.keys fields))

-- the key and the operations of an upsert
pub upsert_fits : (schema : Schema) (item : ℕ) (fields : List (List ℕ)) (key : List Value) (ops : List Op) → upsert_as schema item fields ≡ Ok (key, ops)
    → (fit_columns (take schema.keys schema.columns) key ≡ true) × OpsFit schema ops
upsert_fits schema item fields key ops is = by_length (is_upsert schema.keys (length fields)) is
  where
    by_length : (long : Bool) → (if long then both_read (key_as schema item fields) (ops_as schema item fields) else Err (BadLength item)) ≡ Ok (key, ops)
        → (fit_columns (take schema.keys schema.columns) key ≡ true) × OpsFit schema ops
    by_length false is = absurd cc
    by_length true is =
        let both = both_ok (key_as schema item fields) (ops_as schema item fields) key ops is in
        (key_fits schema item fields key both.0, ops_fit schema item fields ops both.1)

-- ---- a row after operations

-- a row that fits still fits
pub after_ops_fits : (schema : Schema) (ops : List Op) (row : List Value) → OpsFit schema ops → fit_columns schema.columns row ≡ true → fit_columns schema.columns (after_ops ops row) ≡ true
after_ops_fits schema [] row fits fit = fit
after_ops_fits schema (op ∷ ops) row fits fit = after_ops_fits schema ops (after_op row op) fits.1 (op_keeps schema op row fits.0 fit).0

-- its key is unchanged
pub after_ops_key : (schema : Schema) (ops : List Op) (row : List Value) → OpsFit schema ops → fit_columns schema.columns row ≡ true → take schema.keys (after_ops ops row) ≡ take schema.keys row
after_ops_key schema [] row fits fit = refl
after_ops_key schema (op ∷ ops) row fits fit =
    let one = op_keeps schema op row fits.0 fit in
    after_ops_key schema ops (after_op row op) fits.1 one.0 ∙ one.1

-- ---- keys

-- the first row of a key
pub default_row_fits : (schema : Schema) (key : List Value) → fit_columns (take schema.keys schema.columns) key ≡ true → fit_columns schema.columns (default_row schema key) ≡ true
default_row_fits schema key fit = joined_fit schema.keys schema.columns key (map (λ c. default_of c.kind) (drop schema.keys schema.columns)) fit (defaults_fit (drop schema.keys schema.columns))

-- it begins with the key
defaults_after : (n : ℕ) (columns : List Column) (key : List Value) → fit_columns (take n columns) key ≡ true → take n (key ++ map (λ c. default_of c.kind) (drop n columns)) ≡ key
defaults_after zero columns [] fit = refl
defaults_after zero columns (v ∷ key) fit = absurd cc
defaults_after (suc n) [] [] fit = refl
defaults_after (suc n) [] (v ∷ key) fit = absurd cc
defaults_after (suc n) (c ∷ columns) [] fit = absurd cc
defaults_after (suc n) (c ∷ columns) (v ∷ key) fit =
    ap (λ (l : List Value). v ∷ l) (defaults_after n columns key (second_true (fits_kind c.kind v) (fit_columns (take n columns) key) fit))

pub default_row_key : (schema : Schema) (key : List Value) → fit_columns (take schema.keys schema.columns) key ≡ true → take schema.keys (default_row schema key) ≡ key
default_row_key schema key fit = defaults_after schema.keys schema.columns key fit

-- the first row of the key that the record of an upsert encodes begins with the key
pub upsert_begins : (schema : Schema) (item : ℕ) (fields : List (List ℕ)) (key : List Value) (ops : List Op) → upsert_as schema item fields ≡ Ok (key, ops)
    → take schema.keys (default_row schema key) ≡ key
upsert_begins schema item fields key ops is = default_row_key schema key (upsert_fits schema item fields key ops is).0
