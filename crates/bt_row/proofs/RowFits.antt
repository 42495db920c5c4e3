-- A row that fits its columns, after an operation, and the defaults of columns. Serves offered/Fits.
use Rattle.std.proofs.Common.{ℕ, zero, suc, ◌≤◌, Bool, List, [], ◌∷◌, ◌++◌, ◌≡◌, refl, true, false, arith, nat_le, take, drop, get_or, set, slice_get, Option, Some, None, ℤ, pos, if◌then◌else◌}
use Rattle.std.proofs.lemmas.Bool.Decides.{nat_tests}
use Rattle.std.proofs.lemmas.List.{take-set-le}
use Rattle.std.specs.Prelude.{map, option_map}
use Rattle.bt_row.specs.Arithmetic.{Action, Makes, Sets, action_of, new_value}
use Rattle.bt_row.specs.Ops.{action_fault, after_action, after_op, number_fault, open_kind, set_fault}
use Rattle.bt_row.specs.Fits.{OpFits}
use Rattle.bt_row.specs.Schemas.{Schema, fit_columns}
use Rattle.bt_value.specs.Values.{fits_kind, default_of}
use Rattle.bt_row.specs.declared.operations.op.Arithmetic.{Arithmetic}
use Rattle.bt_row.specs.declared.operations.op.Op.{Op}
use Rattle.bt_value.specs.declared.refusal.Refusal.TheVariants.{BadField}
use Rattle.bt_row.specs.declared.rows.schema.Column.{Column}
use Rattle.bt_value.specs.declared.value.Kind.{Kind}
use Rattle.bt_value.specs.declared.value.Kind.TheVariants as kind
use Rattle.bt_value.specs.declared.value.Value.{Value}
use Rattle.bt_value.specs.declared.value.Value.TheVariants as value
use Rattle.bt_value.proofs.offered.Tests.{both_true, first_true, second_true}
use Rattle.bt_value.proofs.offered.Kinds.{default_fits}

-- ---- a row after operations

set_value_fits : (columns : List Column) (row : List Value) (place : ℕ) (k : Kind) (v : Value) → fit_columns columns row ≡ true
    → option_map (λ c. c.kind) (slice_get columns place) ≡ Some k → fits_kind k v ≡ true
    → fit_columns columns (set row place v) ≡ true
set_value_fits [] [] place k v fit at fits = absurd cc
set_value_fits [] (r ∷ row) place k v fit at fits = absurd cc
set_value_fits (c ∷ columns) [] place k v fit at fits = absurd cc
set_value_fits (c ∷ columns) (r ∷ row) zero k v fit at fits =
    let e : c.kind ≡ k = cc in
    both_true (fits_kind c.kind v) (fit_columns columns row) (rw e fits) (second_true (fits_kind c.kind r) (fit_columns columns row) fit)
set_value_fits (c ∷ columns) (r ∷ row) (suc place) k v fit at fits =
    both_true (fits_kind c.kind r) (fit_columns columns (set row place v)) (first_true (fits_kind c.kind r) (fit_columns columns row) fit)
    (set_value_fits columns row place k v (second_true (fits_kind c.kind r) (fit_columns columns row) fit) at fits)

value_at_fits : (columns : List Column) (row : List Value) (place : ℕ) (k : Kind) (d : Value) → fit_columns columns row ≡ true
    → option_map (λ c. c.kind) (slice_get columns place) ≡ Some k → fits_kind k (get_or row place d) ≡ true
value_at_fits [] row place k d fit at = absurd cc
value_at_fits (c ∷ columns) [] place k d fit at = absurd cc
value_at_fits (c ∷ columns) (r ∷ row) zero k d fit at = let e : c.kind ≡ k = cc in rw (← e) (first_true (fits_kind c.kind r) (fit_columns columns row) fit)
value_at_fits (c ∷ columns) (r ∷ row) (suc place) k d fit at = value_at_fits columns row place k d (second_true (fits_kind c.kind r) (fit_columns columns row) fit) at

made_fits : (arithmetic : Arithmetic) (n : ℤ) (v : Value) → fits_kind kind.Int v ≡ true → fits_kind kind.Int (new_value arithmetic n v) ≡ true
made_fits arithmetic n (value.Int old) fits = refl
made_fits arithmetic n other fits = fits

after_key : (schema : Schema) (place : ℕ) (k : Kind) → open_kind schema place ≡ Some k → (schema.keys ≤ place) × (option_map (λ c. c.kind) (slice_get schema.columns place) ≡ Some k)
after_key schema place k is = by_place (nat_le schema.keys place) refl is
  where
    by_place : (b : Bool) → nat_le schema.keys place ≡ b → (if b then option_map (λ c. c.kind) (slice_get schema.columns place) else None) ≡ Some k
        → (schema.keys ≤ place) × (option_map (λ c. c.kind) (slice_get schema.columns place) ≡ Some k)
    by_place true test is = ((let l : schema.keys ≤ place = grind (arith, nat_tests) in l), is)
    by_place false test is = absurd cc

set_kind : (item : ℕ) (v : Value) (o : Option Kind) → set_fault item v o ≡ None → (k : Kind) × (o ≡ Some k) × (fits_kind k v ≡ true)
set_kind item v None is = absurd cc
set_kind item v (Some k) is = (k, refl, by_fit (fits_kind k v) is)
  where
    by_fit : (b : Bool) → (if b then None else Some (BadField item)) ≡ None → b ≡ true
    by_fit true is = refl
    by_fit false is = absurd cc

number_kind : (o : Option Kind) → number_fault o ≡ None → o ≡ Some kind.Int
number_kind None is = absurd cc
number_kind (Some kind.Int) is = refl
number_kind (Some other) is = absurd cc

-- a row that fits still fits after an action that fits, and its key is unchanged
action_keeps : (schema : Schema) (action : Action) (row : List Value) → ((item : ℕ) → action_fault schema item action ≡ None) → fit_columns schema.columns row ≡ true
    → (fit_columns schema.columns (after_action row action) ≡ true) × (take schema.keys (after_action row action) ≡ take schema.keys row)
action_keeps schema (Sets place v) row fits fit =
    let found = set_kind 1 v (open_kind schema place) (fits 1) in
    let following = after_key schema place found.0 found.1 in
    (set_value_fits schema.columns row place found.0 v fit following.1 found.2, take-set-le schema.keys row place v following.0)
action_keeps schema (Makes arithmetic place n) row fits fit =
    let following = after_key schema place kind.Int (number_kind (open_kind schema place) (fits 1)) in
    let old = get_or row place (value.Int (pos 0)) in
    let is_int : fits_kind kind.Int old ≡ true = value_at_fits schema.columns row place kind.Int (value.Int (pos 0)) fit following.1 in (
      set_value_fits schema.columns row place kind.Int (new_value arithmetic n old) fit following.1 (made_fits arithmetic n old is_int),
      take-set-le schema.keys row place (new_value arithmetic n old) following.0,
    )

pub op_keeps : (schema : Schema) (op : Op) (row : List Value) → OpFits schema op → fit_columns schema.columns row ≡ true
    → (fit_columns schema.columns (after_op row op) ≡ true) × (take schema.keys (after_op row op) ≡ take schema.keys row)
op_keeps schema op row fits fit = action_keeps schema (action_of op) row fits fit

-- ---- the first row of a key

pub defaults_fit : (columns : List Column) → fit_columns columns (map (λ c. default_of c.kind) columns) ≡ true
defaults_fit [] = refl
defaults_fit (c ∷ columns) = both_true (fits_kind c.kind (default_of c.kind)) (fit_columns columns (map (λ c. default_of c.kind) columns)) (default_fits c.kind) (defaults_fit columns)

pub joined_fit : (n : ℕ) (columns : List Column) (first rest : List Value) → fit_columns (take n columns) first ≡ true
    → fit_columns (drop n columns) rest ≡ true → fit_columns columns (first ++ rest) ≡ true
joined_fit zero columns [] rest fit others = others
joined_fit zero columns (v ∷ first) rest fit others = absurd cc
joined_fit (suc n) [] [] rest fit others = others
joined_fit (suc n) [] (v ∷ first) rest fit others = absurd cc
joined_fit (suc n) (c ∷ columns) [] rest fit others = absurd cc
joined_fit (suc n) (c ∷ columns) (v ∷ first) rest fit others =
    both_true (fits_kind c.kind v) (fit_columns columns (first ++ rest)) (first_true (fits_kind c.kind v) (fit_columns (take n columns) first) fit)
    (joined_fit n columns first rest (second_true (fits_kind c.kind v) (fit_columns (take n columns) first) fit) others)
