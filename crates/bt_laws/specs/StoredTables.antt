-- Tables as programs store them.
use Rattle.std.specs.Prelude.{◌≡◌, ◌<◌, true}
use Rattle.std.specs.List.{AllByRecursion}
use Rattle.bt_row.specs.Schemas.{is_schema}
use Rattle.bt_value.specs.declared.value.Value.{Value}
use Rattle.bt_value.specs.declared.value.Value.TheVariants as value
use Rattle.bt_form.specs.Shapes.{is_shape}
use Rattle.bt_table.specs.Standing.{IsSoundTable}
use Rattle.bt_table.specs.Tables.{PlainTable}

-- each number in a value of kind bytes is a byte
abbrev pub HasOnlyBytes : Value → Type 0
HasOnlyBytes (value.Bytes bytes) = AllByRecursion (λ b. b < 256) bytes
HasOnlyBytes other = Unit {0}

-- What is true of each table of a program between two calls, if it is not lost. The types of its parts state the last three.
pub record IsStored (table : PlainTable) : Type 0 where
  -- its trees hold its rows and entries, and its rows are of its columns
  pub sound : IsSoundTable table
  -- its columns are those of a `Schema`
  pub schema : is_schema table.schema.columns table.schema.keys ≡ true
  -- its shape is a `Shape`
  pub shape : is_shape table.shape.measure table.shape.fanout table.shape.buffer table.shape.leaf ≡ true
  -- its values have bytes of eight bits
  pub bytes : AllByRecursion (λ row. AllByRecursion HasOnlyBytes row.1) table.rows
