-- The definition of an index, and the entry of a row.
use Rattle.std.specs.Prelude.{ℕ, ◌≡◌, ◌<◌, ◌≤◌, ◌&&◌, ◌++◌, Bool, true, false, not, List, get_or, length, map, nat_lt, Option, Some, None, if◌then◌else◌}
use Rattle.std.specs.List.{All, list_all}
use Rattle.std.specs.Ordering.{is_eq, is_lt}
use Rattle.std.specs.declared.cmp.Ordering.{Ordering}
use Rattle.bt_value.specs.Values.{value_cmp}
pub use Rattle.bt_value.specs.Values.{same_value, same_values}
use Rattle.bt_value.specs.declared.value.Kind.{Kind}
use Rattle.bt_value.specs.declared.value.Kind.TheVariants as kind
use Rattle.bt_value.specs.declared.value.Value.{Value}
use Rattle.bt_value.specs.declared.value.Value.TheVariants as value
use Rattle.bt_keycode.specs.Codes.{code_of, kind_of}
use Rattle.bt_keycode.specs.Keys.{Key}
use Rattle.bt_keycode.specs.Standing.{row_key}
use Rattle.bt_fanout.specs.declared.definition.Condition.{Condition}
use Rattle.bt_row.specs.declared.rows.filter.Test.{Test}
use Rattle.bt_row.specs.declared.rows.filter.Test.TheVariants as test

-- the definition of an index as a contract sees it: the places of the columns that it is ordered by and of those that it includes, the condition on its
-- rows, if it has one, and the number of key columns of the table
pub record Definition : Type 0 where
  pub on : List ℕ
  pub include : List ℕ
  pub condition : Option Condition
  pub keys : ℕ

-- the value of a row at a place
abbrev pub value_in : List Value → ℕ → Value
value_in row place = get_or row place (value.Flag false)

-- the values of a row at places
abbrev pub picked : List ℕ → List Value → List Value
picked places row = map (value_in row) places

-- whether a value that compares to a constant like this passes a test
abbrev pub meets : Test → Ordering → Bool
meets test.Equal order = is_eq order
meets test.Less order = is_lt order
meets test.AtLeast order = not (is_lt order)

-- whether a row meets a condition, if there is one
abbrev pub passes : Option Condition → List Value → Bool
passes None row = true
passes (Some condition) row = meets condition.test (value_cmp (value_in row condition.place) condition.constant)

-- the entry of a row that passes: its key is the code of the columns that the index is ordered by, followed by the key of the row; its value is the
-- included columns
abbrev pub entry_of : Definition → Key → List Value → Option (Key × List Value)
entry_of def key row = if passes def.condition row then Some (code_of (picked def.on row) ++ key, picked def.include row) else None

-- a row of these kinds under the code of its key columns
pub record StandsUnder (def : Definition) (kinds : List Kind) (key : Key) (row : List Value) : Type 0 where
  pub of_kinds : map kind_of row ≡ kinds
  pub under : row_key def.keys row ≡ key

-- ---- definitions of rows

-- the place of a condition is below a number of columns
abbrev pub HasPlace : Option Condition → ℕ → Type 0
HasPlace None columns = Unit {0}
HasPlace (Some condition) columns = condition.place < columns

-- all places of a definition are below a number of columns
pub record IsWithin (def : Definition) (columns : ℕ) : Type 0 where
  pub on : All (λ place. place < columns) def.on
  pub include : All (λ place. place < columns) def.include
  pub condition : HasPlace def.condition columns

-- the same two facts as tests
abbrev pub has_place : Option Condition → ℕ → Bool
has_place None columns = true
has_place (Some condition) columns = nat_lt condition.place columns

abbrev pub is_within : Definition → ℕ → Bool
is_within def columns = list_all (λ place. nat_lt place columns) def.on && list_all (λ place. nat_lt place columns) def.include && has_place def.condition columns

-- the constant of a condition is of the kind at its place
abbrev pub HasKind : Option Condition → List Kind → Type 0
HasKind None kinds = Unit {0}
HasKind (Some condition) kinds = get_or kinds condition.place kind.Flag ≡ kind_of condition.constant

-- a definition is one of rows of these kinds
pub record SuitsKinds (def : Definition) (kinds : List Kind) : Type 0 where
  pub within : IsWithin def (length kinds)
  pub constant : HasKind def.condition kinds
  pub keys : def.keys ≤ length kinds
