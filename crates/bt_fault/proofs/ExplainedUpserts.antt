-- The reason of an upsert is that of its refusal.
use Rattle.std.proofs.Common.{ℕ, ℤ, ◌≡◌, ◌∙◌, ◌≤◌, ◌+◌, ◌==◌, ◌∷◌, [], List, true, false, Option, Some, None, Err, refl, ap, sym, arith, drop, length, take, if◌then◌else◌}
use Rattle.std.proofs.lemmas.Bool.Decides.{nat_tests}
use Rattle.std.proofs.lemmas.List.{length-take-le}
use Rattle.std.specs.Cmp.Lexicographic.{pointwise}
use Rattle.std.specs.List.{cons_option, filter_map}
use Rattle.std.specs.Prelude.{is_some, option_map}
use Rattle.std.specs.Result.{result_err}
use Rattle.bt_value.specs.Ints.{int_of}
use Rattle.bt_value.specs.Kinds.{value_of}
use Rattle.bt_value.specs.Refusals.{lowest}
use Rattle.bt_value.specs.Results.{all_read, both_read, or_refused}
use Rattle.bt_value.specs.declared.refusal.Refusal.{Refusal}
use Rattle.bt_value.specs.declared.refusal.Refusal.TheVariants.{BadField, BadLength}
use Rattle.bt_value.specs.declared.value.Kind.{Kind}
use Rattle.bt_value.specs.declared.value.Kind.TheVariants as kind
use Rattle.bt_value.specs.declared.value.Value.{Value}
use Rattle.bt_value.specs.declared.value.Value.TheVariants as value
use Rattle.bt_row.specs.Arithmetic.{arithmetic_of_word, op_making}
use Rattle.bt_row.specs.Ops as ops
use Rattle.bt_row.specs.Ops.{is_upsert, key_as, op_of, ops_as, ops_of, open_column, set_word, upsert_as}
use Rattle.bt_row.specs.Schemas.{Schema, values_of}
use Rattle.bt_row.specs.declared.operations.op.Arithmetic.{Arithmetic}
use Rattle.bt_row.specs.declared.operations.op.Op.{Op}
use Rattle.bt_row.specs.declared.operations.op.Op.TheVariants.{Set}
use Rattle.bt_fault.specs.Problems.{problem_in}
use Rattle.bt_fault.specs.Reasons as spec
use Rattle.bt_fault.specs.Reasons.{Explains, argument_reason, bad_field, lowest_reason, op_reason, op_reasons, parts_reason, reason_at, refusal_of, ups_reason, wrong_count}
use Rattle.bt_fault.proofs.Explained.{all_err, bad_explained, both_explained, lowest_explained}

-- ---- one operation

argument_explained : (item before : ℕ) (argument : List ℕ) (kind : Kind) (make : Value → Op)
    → Explains (or_refused (BadField item) (option_map make (value_of kind argument))) (argument_reason item before argument kind)
argument_explained item before argument kind make = elim (value_of kind argument) as (λ (read : Option Value).
    refusal_of (option_map (reason_at (BadField item) item (before + 3)) (if is_some read then None else Some (problem_in kind argument)))
    ≡ result_err (or_refused (BadField item) (option_map make read))) [
      | None ↦ refl
      | Some v ↦ refl
    ]

set_explained : (schema : Schema) (item before : ℕ) (name argument : List ℕ) (column : Option (ℕ × Kind))
    → Explains (ops.at_column (ops.set_of item argument) column) (spec.at_column schema item before name (argument_reason item before argument) column)
set_explained schema item before name argument None = refl
set_explained schema item before name argument (Some column) = argument_explained item before argument column.1 (Set column.0)

int_explained : (item before : ℕ) (argument : List ℕ) (make : ℤ → Op)
    → Explains (or_refused (BadField item) (option_map make (int_of argument))) (argument_reason item before argument kind.Int)
int_explained item before argument make = elim (int_of argument) as (λ (read : Option ℤ).
    refusal_of (option_map (reason_at (BadField item) item (before + 3)) (if is_some (option_map value.Int read) then None else Some (problem_in kind.Int argument)))
    ≡ result_err (or_refused (BadField item) (option_map make read))) [
      | None ↦ refl
      | Some n ↦ refl
    ]

number_explained : (arithmetic : Arithmetic) (item before : ℕ) (argument : List ℕ) (place : ℕ) (kind : Kind)
    → Explains (ops.making_of_kind arithmetic item argument place kind) (spec.number_reason item before argument kind)
number_explained arithmetic item before argument place kind.Int = int_explained item before argument (op_making arithmetic place)
number_explained arithmetic item before argument place kind.Text = refl
number_explained arithmetic item before argument place kind.Flag = refl
number_explained arithmetic item before argument place kind.Bytes = refl

making_explained : (schema : Schema) (item before : ℕ) (name argument : List ℕ) (column : Option (ℕ × Kind)) (arithmetic : Arithmetic)
    → Explains (ops.at_column (ops.making_of arithmetic item argument) column) (spec.at_column schema item before name (spec.number_reason item before argument) column)
making_explained schema item before name argument None arithmetic = refl
making_explained schema item before name argument (Some column) arithmetic = number_explained arithmetic item before argument column.0 column.1

word_explained : (schema : Schema) (item before : ℕ) (name argument : List ℕ) (arithmetic : Option Arithmetic)
    → Explains (ops.number_op_of item argument (open_column schema name) arithmetic) (spec.making_reason schema item before name argument arithmetic)
word_explained schema item before name argument None = refl
word_explained schema item before name argument (Some arithmetic) = making_explained schema item before name argument (open_column schema name) arithmetic

op_explained : (schema : Schema) (item before : ℕ) (word name argument : List ℕ) → Explains (op_of schema item word name argument) (op_reason schema item before word name argument)
op_explained schema item before word name argument = elim (pointwise ◌==◌ word set_word) as (λ is_set.
    refusal_of (if is_set then spec.at_column schema item before name (argument_reason item before argument) (open_column schema name)
    else spec.making_reason schema item before name argument (arithmetic_of_word word))
    ≡ result_err (if is_set then ops.at_column (ops.set_of item argument) (open_column schema name) else ops.number_op_of item argument (open_column schema name) (arithmetic_of_word word))) [
      | true ↦ set_explained schema item before name argument (open_column schema name)
      | false ↦ word_explained schema item before name argument (arithmetic_of_word word)
    ]

-- ---- all of them

each_explained : (schema : Schema) (item before : ℕ) (fields : List (List ℕ)) → filter_map refusal_of (op_reasons schema item before fields) ≡ filter_map result_err (ops_of schema item fields)
each_explained schema item before [] = refl
each_explained schema item before (word ∷ []) = refl
each_explained schema item before (word ∷ name ∷ []) = refl
each_explained schema item before (word ∷ name ∷ argument ∷ fields) =
    ap (λ (first : Option Refusal). cons_option first (filter_map refusal_of (op_reasons schema item (before + 3) fields))) (op_explained schema item before word name argument)
    ∙ ap (cons_option (result_err (op_of schema item word name argument))) (each_explained schema item (before + 3) fields)

ops_explained : (schema : Schema) (item before : ℕ) (fields : List (List ℕ)) → Explains (all_read (ops_of schema item fields)) (lowest_reason (op_reasons schema item before fields))
ops_explained schema item before fields =
    lowest_explained (op_reasons schema item before fields) ∙ ap lowest (each_explained schema item before fields) ∙ sym (all_err (ops_of schema item fields))

key_explained : (schema : Schema) (item : ℕ) (fields : List (List ℕ)) → schema.keys ≤ length schema.columns → schema.keys ≤ length fields
    → Explains (key_as schema item fields) (bad_field (take schema.keys schema.columns) item fields)
key_explained schema item fields within long =
    let same : length (take schema.keys schema.columns) ≡ schema.keys = length-take-le schema.keys schema.columns within in
    bad_explained (take schema.keys schema.columns) item fields (omega (arith, same, long))
    ∙ ap (λ n. result_err (or_refused (BadField item) (values_of (take schema.keys schema.columns) (take n fields)))) same

parts_explained : (schema : Schema) (item : ℕ) (fields : List (List ℕ)) → schema.keys ≤ length schema.columns → is_upsert schema.keys (length fields) ≡ true
    → Explains (both_read (key_as schema item fields) (ops_as schema item fields)) (parts_reason schema item fields)
parts_explained schema item fields within is =
    let long : schema.keys ≤ length fields = grind (arith, nat_tests) in
    let ops_are : all_read (ops_of schema item (drop schema.keys fields)) ≡ ops_as schema item fields =
    sym (ap (λ t. if t then all_read (ops_of schema item (drop schema.keys fields)) else Err (BadLength item)) is) in
    both_explained (key_as schema item fields) (ops_as schema item fields) (bad_field (take schema.keys schema.columns) item fields)
    (lowest_reason (op_reasons schema item schema.keys (drop schema.keys fields))) (key_explained schema item fields within long)
    (ops_explained schema item schema.keys (drop schema.keys fields) ∙ ap result_err ops_are)

pub ups_explained : (schema : Schema) (item : ℕ) (fields : List (List ℕ)) → schema.keys ≤ length schema.columns → Explains (upsert_as schema item fields) (ups_reason schema item fields)
ups_explained schema item fields within = elim (is_upsert schema.keys (length fields)) as (λ is. is_upsert schema.keys (length fields) ≡ is
    → refusal_of (if is then parts_reason schema item fields else Some (wrong_count item))
    ≡ result_err (if is then both_read (key_as schema item fields) (ops_as schema item fields) else Err (BadLength item))) [
      | true ↦ λ is. parts_explained schema item fields within is
      | false ↦ λ is. refl
    ] refl
