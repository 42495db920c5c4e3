-- The values that the plain fields at the start of a text encode.
use Rattle.std.specs.List.{list_any}
use Rattle.std.specs.Prelude.{ℕ, ◌≡◌, List, Some, drop, length, take}
use Rattle.bt_value.specs.PlainFields.{fields_from, is_special, parts_of}
use Rattle.bt_row.specs.Schemas.{values_of}
use Rattle.bt_row.specs.declared.rows.schema.Column.{Column}
use Rattle.bt_value.specs.declared.value.Value.{Value}

-- the first fields of a text, one for each column, encode a row and have no special byte; the other fields begin at a place
pub record HasRead (columns : List Column) (text : List ℕ) (row : List Value) (at : ℕ) : Type 0 where
  pub values : values_of columns (take (length columns) (parts_of text)) ≡ Some row
  pub others : drop (length columns) (parts_of text) ≡ fields_from at text
  pub plain : list_any is_special text ≡ list_any is_special (drop at text)
