-- The first problem of the fields from a place on. Serves the loops over columns and their fields.
use Rattle.std.proofs.Common.{ℕ, ◌≡◌, ◌<◌, ◌+◌, ◌∙◌, List, [], Some, None, Option, refl, ap, drop, length, get_or, slice_get}
use Rattle.std.proofs.lemmas.List.{drop_more}
use Rattle.std.proofs.lemmas.Option.{get_or_from_slice_get}
use Rattle.std.specs.Option.{option_or}
use Rattle.std.specs.Prelude.{option_map}
use Rattle.bt_row.specs.declared.rows.schema.Column.{Column}
use Rattle.bt_fault.specs.Reasons.{first_problem}
use Rattle.bt_fault.specs.declared.problem.Problem.{Problem}

-- the field at a place, and those after it
one_more : (problem : Column → List ℕ → Option Problem) (columns : List Column) (fields : List (List ℕ)) (place : ℕ) (column : Column) (field : List ℕ)
    → place < length columns → place < length fields → column ≡ get_or columns place column → slice_get fields place ≡ Some field
    → first_problem problem place (drop place columns) (drop place fields)
    ≡ option_or (option_map (λ p. (place + 1, p)) (problem column field)) (first_problem problem (place + 1) (drop (place + 1) columns) (drop (place + 1) fields))
one_more problem columns fields place column field in_columns in_fields at_column at_field =
    rw (drop_more columns place column in_columns, drop_more fields place [] in_fields, ← at_column, get_or_from_slice_get fields place field [] at_field) refl

-- a field with a problem
pub problem_here : (problem : Column → List ℕ → Option Problem) (columns : List Column) (fields : List (List ℕ)) (place : ℕ) (column : Column) (field : List ℕ) (found : Problem)
    → place < length columns → place < length fields → column ≡ get_or columns place column → slice_get fields place ≡ Some field → problem column field ≡ Some found
    → first_problem problem place (drop place columns) (drop place fields) ≡ Some (place + 1, found)
problem_here problem columns fields place column field found in_columns in_fields at_column at_field is =
    one_more problem columns fields place column field in_columns in_fields at_column at_field
    ∙ ap (λ (o : Option Problem). option_or (option_map (λ (p : Problem). (place + 1, p)) o) (first_problem problem (place + 1) (drop (place + 1) columns) (drop (place + 1) fields))) is

-- a field without one
pub none_here : (problem : Column → List ℕ → Option Problem) (columns : List Column) (fields : List (List ℕ)) (place : ℕ) (column : Column) (field : List ℕ)
    → place < length columns → place < length fields → column ≡ get_or columns place column → slice_get fields place ≡ Some field → problem column field ≡ None
    → first_problem problem place (drop place columns) (drop place fields) ≡ first_problem problem (place + 1) (drop (place + 1) columns) (drop (place + 1) fields)
none_here problem columns fields place column field in_columns in_fields at_column at_field is =
    one_more problem columns fields place column field in_columns in_fields at_column at_field
    ∙ ap (λ (o : Option Problem). option_or (option_map (λ (p : Problem). (place + 1, p)) o) (first_problem problem (place + 1) (drop (place + 1) columns) (drop (place + 1) fields))) is
