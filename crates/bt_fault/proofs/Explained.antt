-- A reason is that of the refusal: of the lowest of several, and of the fields of a record.
use Rattle.std.proofs.Common.{ℕ, ◌≡◌, ◌∙◌, ◌≤◌, ◌+◌, ◌==◌, ◌&&◌, ◌++◌, ◌∷◌, [], List, true, false, Option, Some, None, Result, Ok, Err, refl, ap, sym, arith, length, take, fold, nat_le, if◌then◌else◌}
use Rattle.std.proofs.lemmas.Bool.Decides.{nat_tests}
use Rattle.std.proofs.lemmas.List.{length-take-le, take_all}
use Rattle.std.specs.List.{cons_option, filter_map}
use Rattle.std.specs.Option.{option_or, option_to_list}
use Rattle.std.specs.Prelude.{is_some, nat_lt, not, option_map}
use Rattle.std.specs.Result.{result_err, result_ok}
use Rattle.bt_value.specs.Kinds.{value_of}
use Rattle.bt_value.specs.Refusals.{is_lower, lower, lowest, lowest_from}
use Rattle.bt_value.specs.Results.{all_read, both_read, map_ok, or_refused, unless}
use Rattle.bt_value.specs.declared.refusal.Refusal.{Refusal}
use Rattle.bt_value.specs.declared.refusal.Refusal.TheVariants.{BadField, BadLength}
use Rattle.bt_value.specs.declared.value.Value.{Value}
use Rattle.bt_row.specs.Schemas.{prefix_as, read_as, values_of, with_first}
use Rattle.bt_row.specs.declared.rows.schema.Column.{Column}
use Rattle.bt_fault.specs.Problems.{problem_in}
use Rattle.bt_fault.specs.Reasons.{Explains, bad_field, first_problem, lower_reason, lowest_reason, prefix_reason, reason_at, refusal_of, row_reason, value_problem, wrong_count}
use Rattle.bt_fault.specs.declared.problem.Problem.{Problem}
use Rattle.bt_fault.specs.declared.reason.Reason.{Reason}

-- ---- the lowest of several

refusal_lower : (a b : Reason) → (if is_lower b.refusal a.refusal then b else a).refusal ≡ lower a.refusal b.refusal
refusal_lower a b = elim (is_lower b.refusal a.refusal) as (λ t. (if t then b else a).refusal ≡ (if t then b.refusal else a.refusal)) [
  | true ↦ refl
  | false ↦ refl
]

pub lower_explained : (a b : Option Reason) → refusal_of (lower_reason a b) ≡ lowest_from (refusal_of a) (option_to_list (refusal_of b))
lower_explained None None = refl
lower_explained None (Some b) = refl
lower_explained (Some a) None = refl
lower_explained (Some a) (Some b) = ap Some (refusal_lower a b)

one_more : (found first : Option Refusal) (others : List Refusal) → lowest_from found (cons_option first others) ≡ lowest_from (lowest_from found (option_to_list first)) others
one_more found None others = refl
one_more None (Some first) others = refl
one_more (Some found) (Some first) others = refl

fold_explained : (found : Option Reason) (reasons : List (Option Reason)) → refusal_of (fold lower_reason found reasons) ≡ lowest_from (refusal_of found) (filter_map refusal_of reasons)
fold_explained found [] = refl
fold_explained found (reason ∷ reasons) =
    fold_explained (lower_reason found reason) reasons ∙ ap (λ (f : Option Refusal). lowest_from f (filter_map refusal_of reasons)) (lower_explained found reason)
    ∙ sym (one_more (refusal_of found) (refusal_of reason) (filter_map refusal_of reasons))

pub lowest_explained : (reasons : List (Option Reason)) → refusal_of (lowest_reason reasons) ≡ lowest (filter_map refusal_of reasons)
lowest_explained reasons = fold_explained None reasons

pub lowest_from-append : (found : Option Refusal) (xs ys : List Refusal) → lowest_from found (xs ++ ys) ≡ lowest_from (lowest_from found xs) ys
lowest_from-append found [] ys = refl
lowest_from-append None (x ∷ xs) ys = lowest_from-append (Some x) xs ys
lowest_from-append (Some found) (x ∷ xs) ys = lowest_from-append (Some (lower found x)) xs ys

-- ---- results

pub mapped_err : {A B : Type 0} (f : A → B) (r : Result A Refusal) → result_err (map_ok f r) ≡ result_err r
mapped_err f (Ok a) = refl
mapped_err f (Err e) = refl

unless_err : {T : Type 0} (refusal : Option Refusal) (value : T) → result_err (unless refusal value) ≡ refusal
unless_err None value = refl
unless_err (Some refusal) value = refl

pub all_err : {T : Type 0} (results : List (Result T Refusal)) → result_err (all_read results) ≡ lowest (filter_map result_err results)
all_err results = unless_err (lowest (filter_map result_err results)) (filter_map result_ok results)

both_err : {S T : Type 0} (a : Result S Refusal) (b : Result T Refusal) → result_err (both_read a b) ≡ lowest_from (result_err a) (option_to_list (result_err b))
both_err (Ok a) (Ok b) = refl
both_err (Ok a) (Err e) = refl
both_err (Err e) (Ok b) = refl
both_err (Err e) (Err f) = refl

-- two reasons are those of two refusals
pub both_explained : {S T : Type 0} (a : Result S Refusal) (b : Result T Refusal) (one other : Option Reason) → Explains a one → Explains b other → Explains (both_read a b) (lower_reason one other)
both_explained a b one other as_one as_other =
    lower_explained one other ∙ ap (λ (f : Option Refusal). lowest_from f (option_to_list (refusal_of other))) as_one
    ∙ ap (λ (o : Option Refusal). lowest_from (result_err a) (option_to_list o)) as_other ∙ sym (both_err a b)

-- ---- the fields of a record

some_with_first : (v : Value) (rest : Option (List Value)) → is_some (with_first (Some v) rest) ≡ is_some rest
some_with_first v None = refl
some_with_first v (Some vs) = refl

-- there is a field with a problem if the fields are no values
found_or_read : (before : ℕ) (columns : List Column) (fields : List (List ℕ)) → length columns ≤ length fields
    → is_some (first_problem value_problem before columns fields) ≡ not (is_some (values_of columns (take (length columns) fields)))
found_or_read before [] fields long = refl
found_or_read before (c ∷ columns) [] long = absurd (omega (arith, long))
found_or_read before (c ∷ columns) (field ∷ fields) long =
    let others = values_of columns (take (length columns) fields) in
    elim (value_of c.kind field) as (λ (read : Option Value). is_some (option_or (option_map (λ (p : Problem). (before + 1, p)) (if is_some read then None else Some (problem_in c.kind field)))
    (first_problem value_problem (before + 1) columns fields)) ≡ not (is_some (with_first read others))) [
      | None ↦ refl
      | Some v ↦ found_or_read (before + 1) columns fields (omega (arith, long)) ∙ ap not (sym (some_with_first v others))
    ]

as_refusal : (item : ℕ) (found : Option (ℕ × Problem)) (values : Option (List Value)) → is_some found ≡ not (is_some values)
    → refusal_of (option_map (λ (f : ℕ × Problem). reason_at (BadField item) item f.0 f.1) found) ≡ result_err (or_refused (BadField item) values)
as_refusal item None None is = absurd cc
as_refusal item None (Some values) is = refl
as_refusal item (Some found) None is = refl
as_refusal item (Some found) (Some values) is = absurd cc

pub bad_explained : (columns : List Column) (item : ℕ) (fields : List (List ℕ)) → length columns ≤ length fields
    → Explains (or_refused (BadField item) (values_of columns (take (length columns) fields))) (bad_field columns item fields)
bad_explained columns item fields long = as_refusal item (first_problem value_problem 0 columns fields) (values_of columns (take (length columns) fields)) (found_or_read 0 columns fields long)

-- the reason of a record is that of its refusal
pub row_explained : (columns : List Column) (item : ℕ) (fields : List (List ℕ)) → Explains (read_as columns item fields) (row_reason columns item fields)
row_explained columns item fields = elim (length fields == length columns) as (λ same. (length fields == length columns) ≡ same
    → refusal_of (if same then bad_field columns item fields else Some (wrong_count item))
    ≡ result_err (if same then or_refused (BadField item) (values_of columns fields) else Err (BadLength item))) [
      | true ↦ λ same.
          let long : length columns ≤ length fields = grind (arith, nat_tests) in
          let short : length fields ≤ length columns = grind (arith, nat_tests) in
          bad_explained columns item fields long ∙ ap (λ (fs : List (List ℕ)). result_err (or_refused (BadField item) (values_of columns fs))) (take_all (length columns) fields short)
      | false ↦ λ same. refl
    ] refl

-- the reason of a bound is that of its refusal
pub prefix_explained : (columns : List Column) (item : ℕ) (fields : List (List ℕ)) → Explains (prefix_as columns item fields) (prefix_reason columns item fields)
prefix_explained columns item fields = elim (nat_lt 0 (length fields) && nat_le (length fields) (length columns))
    as (λ some. (nat_lt 0 (length fields) && nat_le (length fields) (length columns)) ≡ some
    → refusal_of (if some then bad_field (take (length fields) columns) item fields else Some (wrong_count item))
    ≡ result_err (if some then or_refused (BadField item) (values_of (take (length fields) columns) fields) else Err (BadLength item))) [
      | true ↦ λ some.
          let within : length fields ≤ length columns = grind (arith, nat_tests) in
          let same : length (take (length fields) columns) ≡ length fields = length-take-le (length fields) columns within in
          let all : take (length (take (length fields) columns)) fields ≡ fields = take_all (length (take (length fields) columns)) fields (omega (arith, same)) in
          bad_explained (take (length fields) columns) item fields (omega (arith, same))
          ∙ ap (λ (fs : List (List ℕ)). result_err (or_refused (BadField item) (values_of (take (length fields) columns) fs))) all
      | false ↦ λ some. refl
    ] refl
