-- The columns of a table, and the values that the fields of a record encode in them.
use Rattle.std.specs.Prelude.{ℕ, ◌==◌, ◌&&◌, not, Bool, true, List, [], ◌∷◌, length, nat_le, nat_lt, take, Option, Some, None, option_map, option_and_then, Result, Ok, Err, if◌then◌else◌}
use Rattle.std.specs.List.{list_any}
use Rattle.std.specs.Cmp.Lexicographic.{pointwise}
use Rattle.bt_value.specs.declared.refusal.Refusal.{Refusal}
use Rattle.bt_value.specs.declared.refusal.Refusal.TheVariants.{BadField, BadLength}
use Rattle.bt_row.specs.declared.rows.schema.Column.{Column}
use Rattle.bt_value.specs.declared.value.Value.{Value}
use Rattle.bt_value.specs.Kinds.{value_of}
use Rattle.bt_value.specs.Results.{or_refused}
use Rattle.bt_value.specs.Values.{fits_kind}

-- what a contract sees of a schema: its columns, with the first `keys` as the key
pub record Schema : Type 0 where
  pub columns : List Column
  pub keys : ℕ

-- whether a column has this name
abbrev pub has_column : List ℕ → List Column → Bool
has_column name columns = list_any (λ c. pointwise ◌==◌ c.name name) columns

-- whether no two columns have the same name
abbrev pub are_apart : List Column → Bool
are_apart [] = true
are_apart (column ∷ columns) = not (has_column column.name columns) && are_apart columns

-- the most columns of a table
abbrev pub most_columns : ℕ
most_columns = 16

-- the most columns of a key
abbrev pub most_keys : ℕ
most_keys = 4

-- 1 to 16 columns with different names, with 1 to 4 of them as the key
abbrev pub is_schema : List Column → ℕ → Bool
is_schema columns keys = (nat_le 1 (length columns) && nat_le (length columns) most_columns) && (nat_le 1 keys && nat_le keys most_keys && nat_le keys (length columns)) && are_apart columns

-- whether values are of the kinds of their columns, one value for each column
abbrev pub fit_columns : List Column → List Value → Bool
fit_columns columns values = pointwise (λ c v. fits_kind c.kind v) columns values

-- whether a row fits these columns, or its refusal as this item
abbrev pub checked_as : List Column → ℕ → List Value → Result (Unit {0}) Refusal
checked_as columns item row =
    if length row == length columns then (if fit_columns columns row then Ok tt else Err (BadField item)) else Err (BadLength item)

-- ---- what the fields of a record encode

-- a value and the others after it, if none is missing
abbrev pub with_first : Option Value → Option (List Value) → Option (List Value)
with_first first rest = option_and_then (λ v. option_map (λ vs. v ∷ vs) rest) first

-- the values that fields encode, one for each column
abbrev pub values_of : List Column → List (List ℕ) → Option (List Value)
values_of [] [] = Some []
values_of [] (field ∷ fields) = None
values_of (column ∷ columns) [] = None
values_of (column ∷ columns) (field ∷ fields) = with_first (value_of column.kind field) (values_of columns fields)

-- the values that a record encodes in its columns, or its refusal as this item
abbrev pub read_as : List Column → ℕ → List (List ℕ) → Result (List Value) Refusal
read_as columns item fields = if length fields == length columns then or_refused (BadField item) (values_of columns fields) else Err (BadLength item)

-- the values that a record encodes in the first of these columns, at least one, one for each field, or its refusal as this item
abbrev pub prefix_as : List Column → ℕ → List (List ℕ) → Result (List Value) Refusal
prefix_as columns item fields =
    if nat_lt 0 (length fields) && nat_le (length fields) (length columns) then or_refused (BadField item) (values_of (take (length fields) columns) fields) else Err (BadLength item)
