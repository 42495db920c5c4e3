-- Rows of columns, and rows at their keys.
use Rattle.std.specs.Prelude.{ℕ, ◌≡◌, true, List, [], ◌∷◌, take}
use Rattle.bt_value.specs.Values.{AreInRange}
use Rattle.bt_row.specs.Schemas.{Schema, fit_columns}
use Rattle.bt_row.specs.declared.rows.schema.Column.{Column}
use Rattle.bt_value.specs.declared.value.Value.{Value}
use Rattle.bt_keycode.specs.Codes.{code_of}
use Rattle.bt_keycode.specs.Keys.{Key}

-- rows by their keys
abbrev pub RowMap : Type 0
RowMap = List (Key × List Value)

-- the key of a row: the code of its first values
abbrev pub row_key : ℕ → List Value → Key
row_key keys row = code_of (take keys row)

-- a row fits columns: it has one value of each column's kind, within the range of the kind
pub record IsOf (columns : List Column) (row : List Value) : Type 0 where
  pub fits : fit_columns columns row ≡ true
  pub in_range : AreInRange row

-- each of the rows fits
abbrev pub AreOf : List Column → List (List Value) → Type 0
AreOf columns [] = Unit {0}
AreOf columns (row ∷ rows) = IsOf columns row × AreOf columns rows

-- each of the rows is at its key
abbrev pub AllAreUnder : ℕ → RowMap → Type 0
AllAreUnder keys [] = Unit {0}
AllAreUnder keys (pair ∷ pairs) = (pair.0 ≡ row_key keys pair.1) × AllAreUnder keys pairs

-- a row is at its key and fits the schema
pub record Stands (schema : Schema) (key : Key) (row : List Value) : Type 0 where
  pub placed : key ≡ row_key schema.keys row
  pub fits : fit_columns schema.columns row ≡ true
  pub in_range : AreInRange row

-- each of the rows is at its key and fits the schema
abbrev pub AllStand : Schema → RowMap → Type 0
AllStand schema [] = Unit {0}
AllStand schema (pair ∷ pairs) = Stands schema pair.0 pair.1 × AllStand schema pairs
