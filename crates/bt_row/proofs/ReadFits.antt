-- The values that fields encode fit their columns, and so do operations one by one. Serves offered/Fits.
use Rattle.std.proofs.Common.{ℕ, zero, suc, ◌+◌, ◌≤◌, Bool, List, [], ◌∷◌, ◌≡◌, ◌==◌, ◌∙◌, refl, sym, ap, subst, true, false}
use Rattle.std.proofs.Common.{arith, codes, drop, slice_get, Option, Some, None, Result, Ok, Err, if◌then◌else◌}
use Rattle.std.proofs.lemmas.Bool.{le-leb}
use Rattle.std.specs.Cmp.Lexicographic.{pointwise}
use Rattle.std.specs.List.{filter_map}
use Rattle.std.specs.Prelude.{option_map}
use Rattle.std.specs.Result.{result_ok}
use Rattle.bt_value.proofs.offered.Results.{some_read, option_some}
use Rattle.bt_value.proofs.offered.Tests.{both_true}
use Rattle.bt_value.specs.Ints.{int_of}
use Rattle.bt_row.specs.Arithmetic.{arithmetic_of_word, op_making}
use Rattle.bt_row.specs.Ops.{action_fault, at_column, making_of, making_of_kind, named_from, number_fault, number_op_of, op_of, open_column, open_kind, ops_of, set_of}
use Rattle.bt_row.specs.Fits.{OpFits, OpsFit}
use Rattle.bt_row.specs.Schemas.{Schema, fit_columns, with_first}
use Rattle.bt_value.specs.Values.{fits_kind, value_of}
use Rattle.bt_row.specs.declared.operations.op.Arithmetic.{Arithmetic}
use Rattle.bt_row.specs.declared.operations.op.Op.{Op}
use Rattle.bt_row.specs.declared.operations.op.Op.TheVariants.{Set}
use Rattle.bt_value.specs.declared.refusal.Refusal.{Refusal}
use Rattle.bt_value.specs.declared.refusal.Refusal.TheVariants.{BadField}
use Rattle.bt_row.specs.declared.rows.schema.Column.{Column}
use Rattle.bt_value.specs.declared.value.Kind.{Kind}
use Rattle.bt_value.specs.declared.value.Kind.TheVariants as kind
use Rattle.bt_value.specs.declared.value.Value.{Value}
use Rattle.bt_row.proofs.offered.Actions.{action_making}
use Rattle.bt_value.proofs.offered.Kinds.{value_fits}

pub with_first_fits : (column : Column) (columns : List Column) (first : Option Value) (rest : Option (List Value)) (row : List Value) → ((v : Value) → first ≡ Some v → fits_kind column.kind v ≡ true)
    → ((vs : List Value) → rest ≡ Some vs → fit_columns columns vs ≡ true) → with_first first rest ≡ Some row → fit_columns (column ∷ columns) row ≡ true
with_first_fits column columns None rest row one others is = absurd cc
with_first_fits column columns (Some v) None row one others is = absurd cc
with_first_fits column columns (Some v) (Some vs) row one others is =
    let e : v ∷ vs ≡ row = cc in
    rw (← e) (both_true (fits_kind column.kind v) (fit_columns columns vs) (one v refl) (others vs refl))

-- ---- operations that are read

-- the column with a name is at a place from here on
abbrev StandsAt : ℕ → List Column → ℕ × Kind → Type 0
StandsAt start columns found = (i : ℕ) × (found.0 ≡ start + i) × (option_map (λ c. c.kind) (slice_get columns i) ≡ Some found.1)

stands_later : (start : ℕ) (column : Column) (columns : List Column) (found : ℕ × Kind) → StandsAt (suc start) columns found → StandsAt start (column ∷ columns) found
stands_later start column columns found next = (suc next.0, (let p : found.0 ≡ suc start + next.0 = next.1 in omega arith), next.2)

stands_first : (start : ℕ) (column : Column) (columns : List Column) (found : ℕ × Kind) → (start, column.kind) ≡ found → StandsAt start (column ∷ columns) found
stands_first start column columns found e = (zero, (let p : start ≡ found.0 = ap (λ (f : ℕ × Kind). f.0) e in omega arith), ap (λ (f : ℕ × Kind). Some f.1) e)

named_by_test : (start : ℕ) (column : Column) (columns : List Column) (rest : Option (ℕ × Kind)) (found : ℕ × Kind) (same : Bool) → (rest ≡ Some found → StandsAt (suc start) columns found)
    → (if same then Some (start, column.kind) else rest) ≡ Some found → StandsAt start (column ∷ columns) found
named_by_test start column columns rest found true later is = let e : (start, column.kind) ≡ found = cc in stands_first start column columns found e
named_by_test start column columns rest found false later is = stands_later start column columns found (later is)

named_at : (start : ℕ) (name : List ℕ) (columns : List Column) (found : ℕ × Kind) → named_from start name columns ≡ Some found → StandsAt start columns found
named_at start name [] found is = absurd cc
named_at start name (column ∷ columns) found is =
    named_by_test start column columns (named_from (suc start) name columns) found (pointwise ◌==◌ column.name name) (λ e. named_at (suc start) name columns found e) is

get_dropped : {A : Type 0} (n i : ℕ) (xs : List A) → slice_get (drop n xs) i ≡ slice_get xs (n + i)
get_dropped zero i xs = ap (slice_get xs) (omega arith)
get_dropped (suc n) i [] = refl
get_dropped (suc n) i (x ∷ xs) = get_dropped n i xs ∙ ap (slice_get (x ∷ xs)) (let e : suc (n + i) ≡ suc n + i = omega arith in e)

-- the column with a name that operations may change is after the key
pub open_kind_at : (schema : Schema) (name : List ℕ) (found : ℕ × Kind) → open_column schema name ≡ Some found → open_kind schema found.0 ≡ Some found.1
open_kind_at schema name found is =
    let at = named_at schema.keys name (drop schema.keys schema.columns) found is in
    let following : schema.keys ≤ found.0 = (let p : found.0 ≡ schema.keys + at.0 = at.1 in omega arith) in
    let here : option_map (λ c. c.kind) (slice_get schema.columns found.0) ≡ Some found.1 =
    ap (λ n. option_map (λ (c : Column). c.kind) (slice_get schema.columns n)) at.1
    ∙ ap (option_map (λ (c : Column). c.kind)) (sym (get_dropped schema.keys at.0 schema.columns)) ∙ at.2 in
    rw (le-leb schema.keys found.0 following) here

column_read : {T : Type 0} (read : ℕ × Kind → Result T Refusal) (found : Option (ℕ × Kind)) (value : T) → at_column read found ≡ Ok value → (column : ℕ × Kind)
    × (found ≡ Some column) × (read column ≡ Ok value)
column_read read None value is = absurd cc
column_read read (Some column) value is = (column, refl, is)

set_fits : (schema : Schema) (item : ℕ) (argument : List ℕ) (column : ℕ × Kind) (op : Op) → open_kind schema column.0 ≡ Some column.1 → set_of item argument column ≡ Ok op → OpFits schema op
set_fits schema item argument column op at is =
    let spelled = option_some (Set column.0) (value_of column.1 argument) op (some_read (BadField item) (option_map (Set column.0) (value_of column.1 argument)) op is) in
    let fits : fits_kind column.1 spelled.0 ≡ true = value_fits column.1 argument spelled.0 spelled.1 in
    subst (OpFits schema) spelled.2 (λ other. rw (at, fits) refl)

making_fits : (schema : Schema) (arithmetic : Arithmetic) (item : ℕ) (argument : List ℕ) (place : ℕ) (k : Kind) (op : Op) → open_kind schema place ≡ Some k
    → making_of_kind arithmetic item argument place k ≡ Ok op → OpFits schema op
making_fits schema arithmetic item argument place kind.Int op at is =
    let spelled = option_some (op_making arithmetic place) (int_of argument) op (some_read (BadField item) (option_map (op_making arithmetic place) (int_of argument)) op is) in
    subst (OpFits schema) spelled.2 (λ other. ap (action_fault schema other) (action_making arithmetic place spelled.0) ∙ ap number_fault at)
making_fits schema arithmetic item argument place other op at is = absurd cc

op_fits : (schema : Schema) (item : ℕ) (word name argument : List ℕ) (op : Op) → op_of schema item word name argument ≡ Ok op → OpFits schema op
op_fits schema item word name argument op is = by_word (pointwise ◌==◌ word (codes "set")) (arithmetic_of_word word) is
  where
    by_word : (sets : Bool) (named : Option Arithmetic)
        → (if sets then at_column (set_of item argument) (open_column schema name) else number_op_of item argument (open_column schema name) named) ≡ Ok op
        → OpFits schema op
    by_word true named is =
        let column = column_read (set_of item argument) (open_column schema name) op is in
        set_fits schema item argument column.0 op (open_kind_at schema name column.0 column.1) column.2
    by_word false (Some arithmetic) is =
        let column = column_read (making_of arithmetic item argument) (open_column schema name) op is in
        making_fits schema arithmetic item argument column.0.0 column.0.1 op (open_kind_at schema name column.0 column.1) column.2
    by_word false None is = absurd cc

one_fits : (schema : Schema) (read : Result Op Refusal) (others : List (Result Op Refusal)) → ((op : Op) → read ≡ Ok op → OpFits schema op)
    → OpsFit schema (filter_map result_ok others) → OpsFit schema (filter_map result_ok (read ∷ others))
one_fits schema (Ok op) others fits rest = (fits op refl, rest)
one_fits schema (Err refusal) others fits rest = rest

pub groups_fit : (schema : Schema) (item : ℕ) (fields : List (List ℕ)) → OpsFit schema (filter_map result_ok (ops_of schema item fields))
groups_fit schema item [] = tt
groups_fit schema item (word ∷ []) = tt
groups_fit schema item (word ∷ name ∷ []) = tt
groups_fit schema item (word ∷ name ∷ argument ∷ fields) =
    one_fits schema (op_of schema item word name argument) (ops_of schema item fields) (op_fits schema item word name argument) (groups_fit schema item fields)
