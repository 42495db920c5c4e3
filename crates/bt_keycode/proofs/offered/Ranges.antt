-- The values that records encode are within the ranges of their kinds, also after operations. Used for the codes of a table's rows.
use Rattle.std.proofs.Common.{ℕ, zero, suc, ◌==◌, Bool, true, false, List, [], ◌∷◌, ◌++◌, arith, length, take, drop, get_or, set}
use Rattle.std.proofs.Common.{subst, sym, codes, map, Option, Some, None, IfSome, IfOk, Result, Ok, Err, ℤ, pos, if◌then◌else◌}
use Rattle.std.specs.Cmp.Lexicographic.{pointwise}
use Rattle.std.specs.Int.{w64}
use Rattle.std.specs.List.{filter_map}
use Rattle.std.specs.Prelude.{FitsSigned, option_map}
use Rattle.std.specs.Result.{result_err, result_ok}
use Rattle.bt_row.specs.Fits.{OpInRange, OpsInRange}
use Rattle.bt_row.specs.Arithmetic.{Action, Makes, Sets, action_of, arithmetic_of_word, op_making, new_value}
use Rattle.bt_value.specs.Ints.{int_of}
use Rattle.bt_row.specs.Ops.{after_action, after_op, after_ops, argument_in, at_column, default_row, is_upsert, key_as}
use Rattle.bt_row.specs.Ops.{making_of, making_of_kind, number_op_of, op_of, open_column, ops_as, ops_of, set_of, upsert_as}
use Rattle.bt_value.specs.Results.{all_read, both_read, unless, or_refused}
use Rattle.bt_value.specs.Values.{AreInRange, IsInRange, default_of, value_of}
use Rattle.bt_row.specs.Schemas.{read_as, values_of, with_first, Schema}
use Rattle.bt_value.specs.Refusals.{lowest}
use Rattle.bt_row.specs.declared.operations.op.Arithmetic.{Arithmetic}
use Rattle.bt_row.specs.declared.operations.op.Op.{Op}
use Rattle.bt_row.specs.declared.operations.op.Op.TheVariants.{Set}
use Rattle.bt_value.specs.declared.refusal.Refusal.{Refusal}
use Rattle.bt_value.specs.declared.refusal.Refusal.TheVariants.{BadField, BadLength}
use Rattle.bt_row.specs.declared.rows.schema.Column.{Column}
use Rattle.bt_value.specs.declared.value.Kind.{Kind}
use Rattle.bt_value.specs.declared.value.Kind.TheVariants as kind
use Rattle.bt_value.specs.declared.value.Value.{Value}
use Rattle.bt_value.specs.declared.value.Value.TheVariants as value
use Rattle.bt_row.proofs.offered.Actions.{action_making, new_number_fits}
use Rattle.bt_value.proofs.offered.IntRanges.{int_in_range}
use Rattle.bt_value.proofs.offered.Kinds.{default_in_range, value_in_range}

-- ---- lists of values in range

pub take_in_range : (n : ℕ) (row : List Value) → AreInRange row → AreInRange (take n row)
take_in_range zero row h = tt
take_in_range (suc n) [] h = tt
take_in_range (suc n) (v ∷ vs) h = (h.0, take_in_range n vs h.1)

append_in_range : (vs ws : List Value) → AreInRange vs → AreInRange ws → AreInRange (vs ++ ws)
append_in_range [] ws h rest = rest
append_in_range (v ∷ vs) ws h rest = (h.0, append_in_range vs ws h.1 rest)

-- ---- values that fields encode

with_first_in_range : (first : Option Value) (rest : Option (List Value)) → IfSome first IsInRange → IfSome rest AreInRange → IfSome (with_first first rest) AreInRange
with_first_in_range None rest h others = tt
with_first_in_range (Some v) None h others = tt
with_first_in_range (Some v) (Some vs) h others = (h, others)

values_in_range : (columns : List Column) (fields : List (List ℕ)) → IfSome (values_of columns fields) AreInRange
values_in_range [] [] = tt
values_in_range [] (field ∷ fields) = tt
values_in_range (column ∷ columns) [] = tt
values_in_range (column ∷ columns) (field ∷ fields) = with_first_in_range (value_of column.kind field) (values_of columns fields) (value_in_range column.kind field) (values_in_range columns fields)

or_refused_ok : {T : Type 0} (refusal : Refusal) (o : Option T) (P : T → Type 0) → IfSome o P → IfOk (or_refused refusal o) P
or_refused_ok refusal None P h = tt
or_refused_ok refusal (Some x) P h = h

-- the values of a record
pub read_in_range : (columns : List Column) (item : ℕ) (fields : List (List ℕ)) → IfOk (read_as columns item fields) AreInRange
read_in_range columns item fields =
    elim (length fields == length columns) as (λ b. IfOk (if b then or_refused (BadField item) (values_of columns fields) else Err (BadLength item)) AreInRange) [
      | true ↦ or_refused_ok (BadField item) (values_of columns fields) AreInRange (values_in_range columns fields)
      | false ↦ tt
    ]

-- ---- operations that fields encode

set_made : (place : ℕ) (o : Option Value) → IfSome o IsInRange → IfSome (option_map (Set place) o) OpInRange
set_made place None h = tt
set_made place (Some v) h = h

number_op : (how : Arithmetic) (place : ℕ) (o : Option ℤ) → IfSome o (FitsSigned w64) → IfSome (option_map (op_making how place) o) OpInRange
number_op how place None h = tt
number_op how place (Some n) h = subst (λ action. IsInRange (argument_in action)) (sym (action_making how place n)) h

set_in_range : (item : ℕ) (argument : List ℕ) (column : ℕ × Kind) → IfOk (set_of item argument column) OpInRange
set_in_range item argument column =
    or_refused_ok (BadField item) (option_map (Set column.0) (value_of column.1 argument)) OpInRange (set_made column.0 (value_of column.1 argument) (value_in_range column.1 argument))

making_in_range : (how : Arithmetic) (item : ℕ) (argument : List ℕ) (place : ℕ) (k : Kind) → IfOk (making_of_kind how item argument place k) OpInRange
making_in_range how item argument place kind.Int =
    or_refused_ok (BadField item) (option_map (op_making how place) (int_of argument)) OpInRange (number_op how place (int_of argument) (int_in_range argument))
making_in_range how item argument place other = tt

at_column_ok : {T : Type 0} (read : ℕ × Kind → Result T Refusal) (found : Option (ℕ × Kind)) (P : T → Type 0) → ((column : ℕ × Kind) → IfOk (read column) P) → IfOk (at_column read found) P
at_column_ok read None P h = tt
at_column_ok read (Some column) P h = h column

op_in_range : (schema : Schema) (item : ℕ) (word name argument : List ℕ) → IfOk (op_of schema item word name argument) OpInRange
op_in_range schema item word name argument = by_word (pointwise ◌==◌ word (codes "set")) (arithmetic_of_word word)
  where
    by_word : (sets : Bool) (named : Option Arithmetic)
        → IfOk (if sets then at_column (set_of item argument) (open_column schema name) else number_op_of item argument (open_column schema name) named) OpInRange
    by_word true named = at_column_ok (set_of item argument) (open_column schema name) OpInRange (set_in_range item argument)
    by_word false (Some how) = at_column_ok (making_of how item argument) (open_column schema name) OpInRange (λ column. making_in_range how item argument column.0 column.1)
    by_word false None = tt

one_op : (read : Result Op Refusal) (others : List (Result Op Refusal)) → IfOk read OpInRange → OpsInRange (filter_map result_ok others) → OpsInRange (filter_map result_ok (read ∷ others))
one_op (Ok op) others h rest = (h, rest)
one_op (Err refusal) others h rest = rest

groups_in_range : (schema : Schema) (item : ℕ) (fields : List (List ℕ)) → OpsInRange (filter_map result_ok (ops_of schema item fields))
groups_in_range schema item [] = tt
groups_in_range schema item (word ∷ []) = tt
groups_in_range schema item (word ∷ name ∷ []) = tt
groups_in_range schema item (word ∷ name ∷ argument ∷ fields) =
    one_op (op_of schema item word name argument) (ops_of schema item fields) (op_in_range schema item word name argument) (groups_in_range schema item fields)

unless_holds : {T : Type 0} (refusal : Option Refusal) (x : T) (P : T → Type 0) → P x → IfOk (unless refusal x) P
unless_holds None x P h = h
unless_holds (Some refusal) x P h = tt

both_hold : {S T : Type 0} (first : Result S Refusal) (second : Result T Refusal) (P : S → Type 0) (Q : T → Type 0) → IfOk first P → IfOk second Q
    → IfOk (both_read first second) (λ both. P both.0 × Q both.1)
both_hold (Ok x) (Ok y) P Q p q = (p, q)
both_hold (Ok x) (Err e) P Q p q = tt
both_hold (Err e) (Ok y) P Q p q = tt
both_hold (Err e) (Err f) P Q p q = tt

-- the key and the operations of an upsert
pub upsert_in_range : (schema : Schema) (item : ℕ) (fields : List (List ℕ)) → IfOk (upsert_as schema item fields) (λ upsert. AreInRange upsert.0 × OpsInRange upsert.1)
upsert_in_range schema item fields = by_length (is_upsert schema.keys (length fields))
  where
    key : IfOk (key_as schema item fields) AreInRange
    key = or_refused_ok (BadField item) (values_of (take schema.keys schema.columns) (take schema.keys fields)) AreInRange (values_in_range (take schema.keys schema.columns) (take schema.keys fields))

    ops_by : (long : Bool) → IfOk (if long then all_read (ops_of schema item (drop schema.keys fields)) else Err (BadLength item)) OpsInRange
    ops_by true =
        let read = ops_of schema item (drop schema.keys fields) in
        unless_holds (lowest (filter_map result_err read)) (filter_map result_ok read) OpsInRange (groups_in_range schema item (drop schema.keys fields))
    ops_by false = tt

    by_length : (long : Bool) → IfOk (if long then both_read (key_as schema item fields) (ops_as schema item fields) else Err (BadLength item)) (λ upsert. AreInRange upsert.0 × OpsInRange upsert.1)
    by_length true = both_hold (key_as schema item fields) (ops_as schema item fields) AreInRange OpsInRange key (ops_by (is_upsert schema.keys (length fields)))
    by_length false = tt

-- ---- rows after operations, and default rows

set_value : (row : List Value) (place : ℕ) (new : Value) → AreInRange row → IsInRange new → AreInRange (set row place new)
set_value [] place new h one = tt
set_value (v ∷ vs) zero new h one = (one, h.1)
set_value (v ∷ vs) (suc place) new h one = (h.0, set_value vs place new h.1 one)

value_at : (row : List Value) (place : ℕ) (other : Value) → AreInRange row → IsInRange other → IsInRange (get_or row place other)
value_at [] place other h one = one
value_at (v ∷ vs) zero other h one = h.0
value_at (v ∷ vs) (suc place) other h one = value_at vs place other h.1 one

new_value_in_range : (how : Arithmetic) (n : ℤ) (v : Value) → FitsSigned w64 n → IsInRange v → IsInRange (new_value how n v)
new_value_in_range how n (value.Int old) fits h = new_number_fits how old n h fits
new_value_in_range how n other fits h = h

zero_fits : FitsSigned w64 (pos 0)
zero_fits = record { sfits = omega arith }

after_action_in_range : (row : List Value) (action : Action) → IsInRange (argument_in action) → AreInRange row → AreInRange (after_action row action)
after_action_in_range row (Sets place new) one h = set_value row place new h one
after_action_in_range row (Makes how place n) one h =
    let old = get_or row place (value.Int (pos 0)) in
    set_value row place (new_value how n old) h (new_value_in_range how n old one (value_at row place (value.Int (pos 0)) h zero_fits))

pub after_ops_in_range : (ops : List Op) (row : List Value) → OpsInRange ops → AreInRange row → AreInRange (after_ops ops row)
after_ops_in_range [] row all h = h
after_ops_in_range (op ∷ ops) row all h = after_ops_in_range ops (after_op row op) all.1 (after_action_in_range row (action_of op) all.0 h)

defaults_in_range : (columns : List Column) → AreInRange (map (λ c. default_of c.kind) columns)
defaults_in_range [] = tt
defaults_in_range (c ∷ columns) = (default_in_range c.kind, defaults_in_range columns)

pub default_row_in_range : (schema : Schema) (key : List Value) → AreInRange key → AreInRange (default_row schema key)
default_row_in_range schema key h = append_in_range key (map (λ c. default_of c.kind) (drop schema.keys schema.columns)) h (defaults_in_range (drop schema.keys schema.columns))
