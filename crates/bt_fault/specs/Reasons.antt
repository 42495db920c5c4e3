-- The reason of a refusal: the item, the field, and what is wrong with it.
use Rattle.std.specs.Prelude.{ℕ, ◌≡◌, ◌+◌, ◌==◌, ◌&&◌, List, [], ◌∷◌, fold, drop, length, take, nat_le, nat_lt, Option, Some, None, is_some, option_map, Result, if◌then◌else◌}
use Rattle.std.specs.Option.{option_or}
use Rattle.std.specs.Result.{result_err}
use Rattle.std.specs.Cmp.Lexicographic.{pointwise}
use Rattle.bt_value.specs.Refusals.{is_lower}
use Rattle.bt_value.specs.declared.refusal.Refusal.{Refusal}
use Rattle.bt_value.specs.declared.refusal.Refusal.TheVariants.{BadField, BadLength, NoSuchColumn, NotInt}
use Rattle.bt_value.specs.declared.value.Kind.{Kind}
use Rattle.bt_value.specs.declared.value.Kind.TheVariants as kind
use Rattle.bt_row.specs.Arithmetic.{arithmetic_of_word}
use Rattle.bt_row.specs.Ops.{is_upsert, named_from, open_column, set_word}
use Rattle.bt_row.specs.Schemas.{Schema}
use Rattle.bt_row.specs.declared.operations.op.Arithmetic.{Arithmetic}
use Rattle.bt_row.specs.declared.rows.schema.Column.{Column}
use Rattle.bt_fault.specs.Problems.{field_problem}
use Rattle.bt_fault.specs.declared.problem.Problem.{Problem}
use Rattle.bt_fault.specs.declared.problem.Problem.TheVariants.{FieldCount, KeyColumn, NoColumn, NoIntColumn, NoOperation}
use Rattle.bt_fault.specs.declared.reason.Reason.{Reason}

-- a refusal at a field of an item, both counted from 1; 0 is none
abbrev pub reason_at : Refusal → ℕ → ℕ → Problem → Reason
reason_at refusal item field problem = record { refusal = refusal; item = item; field = field; problem = problem }

-- an item has a wrong number of fields
abbrev pub wrong_count : ℕ → Reason
wrong_count item = reason_at (BadLength item) item 0 FieldCount

-- of two reasons the one with the lower refusal, and the first if they have the same
abbrev pub lower_reason : Option Reason → Option Reason → Option Reason
lower_reason None second = second
lower_reason (Some first) None = Some first
lower_reason (Some first) (Some second) = Some (if is_lower second.refusal first.refusal then second else first)

-- the first of the reasons with the lowest refusal
abbrev pub lowest_reason : List (Option Reason) → Option Reason
lowest_reason reasons = fold lower_reason None reasons

-- ---- fields by their columns

-- the first field with a problem, counted from 1 after a number of others, and the problem; a field without a column has none
abbrev pub first_problem : (Column → List ℕ → Option Problem) → ℕ → List Column → List (List ℕ) → Option (ℕ × Problem)
first_problem problem before [] fields = None
first_problem problem before (column ∷ columns) [] = None
first_problem problem before (column ∷ columns) (field ∷ fields) =
    option_or (option_map (λ p. (before + 1, p)) (problem column field)) (first_problem problem (before + 1) columns fields)

-- what is wrong with a field as a value of its column
abbrev pub value_problem : Column → List ℕ → Option Problem
value_problem column field = field_problem column.kind field

-- the first field of an item that is no value of its column
abbrev pub bad_field : List Column → ℕ → List (List ℕ) → Option Reason
bad_field columns item fields = option_map (λ found. reason_at (BadField item) item found.0 found.1) (first_problem value_problem 0 columns fields)

-- why a record is no row of these columns
abbrev pub row_reason : List Column → ℕ → List (List ℕ) → Option Reason
row_reason columns item fields = if length fields == length columns then bad_field columns item fields else Some (wrong_count item)

-- why a record is no values of the first of these columns
abbrev pub prefix_reason : List Column → ℕ → List (List ℕ) → Option Reason
prefix_reason columns item fields =
    if nat_lt 0 (length fields) && nat_le (length fields) (length columns) then bad_field (take (length fields) columns) item fields else Some (wrong_count item)

-- ---- upserts

-- the name of an operation, which is a field after a number of others, is no column that operations may change
abbrev pub closed_reason : Schema → ℕ → ℕ → List ℕ → Reason
closed_reason schema item before name = reason_at NoSuchColumn item (before + 2) (if is_some (named_from 0 name schema.columns) then KeyColumn else NoColumn)

-- why the argument of an operation is no value of a kind
abbrev pub argument_reason : ℕ → ℕ → List ℕ → Kind → Option Reason
argument_reason item before argument kind = option_map (reason_at (BadField item) item (before + 3)) (field_problem kind argument)

-- the same for an arithmetic operation, which a column of another kind than int doesn't have
abbrev pub number_reason : ℕ → ℕ → List ℕ → Kind → Option Reason
number_reason item before argument kind.Int = argument_reason item before argument kind.Int
number_reason item before argument other = Some (reason_at NotInt item (before + 2) NoIntColumn)

-- why an operation of a known word is refused at the column of its name
abbrev pub at_column : Schema → ℕ → ℕ → List ℕ → (Kind → Option Reason) → Option (ℕ × Kind) → Option Reason
at_column schema item before name reason None = Some (closed_reason schema item before name)
at_column schema item before name reason (Some column) = reason column.1

-- why an operation that is not set is refused
abbrev pub making_reason : Schema → ℕ → ℕ → List ℕ → List ℕ → Option Arithmetic → Option Reason
making_reason schema item before name argument None = Some (reason_at (BadField item) item (before + 1) NoOperation)
making_reason schema item before name argument (Some arithmetic) = at_column schema item before name (number_reason item before argument) (open_column schema name)

-- why an operation is refused: its word, its column, the kind for a number, or its argument, three fields after a number of others
abbrev pub op_reason : Schema → ℕ → ℕ → List ℕ → List ℕ → List ℕ → Option Reason
op_reason schema item before word name argument =
    if pointwise ◌==◌ word set_word then at_column schema item before name (argument_reason item before argument) (open_column schema name)
    else making_reason schema item before name argument (arithmetic_of_word word)

-- the same for each operation that fields encode in groups of three
abbrev pub op_reasons : Schema → ℕ → ℕ → List (List ℕ) → List (Option Reason)
op_reasons schema item before [] = []
op_reasons schema item before (word ∷ []) = []
op_reasons schema item before (word ∷ name ∷ []) = []
op_reasons schema item before (word ∷ name ∷ argument ∷ fields) = op_reason schema item before word name argument ∷ op_reasons schema item (before + 3) fields

-- why the fields of a key and of operations are refused
abbrev pub parts_reason : Schema → ℕ → List (List ℕ) → Option Reason
parts_reason schema item fields =
    lower_reason (bad_field (take schema.keys schema.columns) item fields) (lowest_reason (op_reasons schema item schema.keys (drop schema.keys fields)))

-- why a record is no upsert
abbrev pub ups_reason : Schema → ℕ → List (List ℕ) → Option Reason
ups_reason schema item fields = if is_upsert schema.keys (length fields) then parts_reason schema item fields else Some (wrong_count item)

-- ---- reasons and refusals

-- the refusal of a reason, if there is one
abbrev pub refusal_of : Option Reason → Option Refusal
refusal_of reason = option_map (λ r. r.refusal) reason

-- a reason is one of the refusal of a call, and there is none if the call has a value
abbrev pub Explains : {T : Type 0} → Result T Refusal → Option Reason → Type 0
Explains answer reason = refusal_of reason ≡ result_err answer
