-- Tests whether two definitions are the same.
use Rattle.std.specs.Cmp.Lexicographic.{pointwise}
use Rattle.std.specs.Prelude.{◌==◌, ◌&&◌, ◌∷◌, [], Bool, true, false, Option, None, Some}
use Rattle.bt_value.specs.Values.{same_kind, same_values}
use Rattle.bt_row.specs.Schemas.{Schema}
use Rattle.bt_row.specs.declared.rows.filter.Test.{Test}
use Rattle.bt_row.specs.declared.rows.filter.Test.TheVariants as test
use Rattle.bt_row.specs.declared.rows.schema.Column.{Column}
use Rattle.bt_message.specs.declared.measure.Measure.{Measure}
use Rattle.bt_message.specs.declared.measure.Measure.TheVariants as measure
use Rattle.bt_form.specs.Trees.{Shape}
use Rattle.bt_fanout.specs.Entries.{Definition}
use Rattle.bt_fanout.specs.declared.definition.Condition.{Condition}
use Rattle.bt_table.specs.Indexes.{Index}
use Rattle.bt_table.specs.Tables.{PlainTable}

-- ---- columns and shapes

abbrev pub same_column : Column → Column → Bool
same_column a b = pointwise ◌==◌ a.name b.name && same_kind a.kind b.kind

abbrev pub same_schema : Schema → Schema → Bool
same_schema a b = a.keys == b.keys && pointwise same_column a.columns b.columns

abbrev pub same_measure : Measure → Measure → Bool
same_measure measure.Messages measure.Messages = true
same_measure measure.Bytes measure.Bytes = true
same_measure a b = false

abbrev pub same_shape : Shape → Shape → Bool
same_shape a b = a.fanout == b.fanout && a.buffer == b.buffer && a.leaf == b.leaf && same_measure a.measure b.measure

-- ---- indexes

abbrev pub same_test : Test → Test → Bool
same_test test.Equal test.Equal = true
same_test test.Less test.Less = true
same_test test.AtLeast test.AtLeast = true
same_test a b = false

abbrev pub same_condition : Condition → Condition → Bool
same_condition a b = a.place == b.place && same_test a.test b.test && same_values (a.constant ∷ []) (b.constant ∷ [])

abbrev pub same_conditions : Option Condition → Option Condition → Bool
same_conditions None None = true
same_conditions (Some a) (Some b) = same_condition a b
same_conditions a b = false

-- two definitions are the same, apart from the number of key columns, which is that of the table
abbrev pub same_definition : Definition → Definition → Bool
same_definition a b = pointwise ◌==◌ a.on b.on && pointwise ◌==◌ a.include b.include && same_conditions a.condition b.condition

abbrev pub same_index : Index → Index → Bool
same_index a b = pointwise ◌==◌ a.name b.name && same_definition a.def b.def

-- ---- tables

-- the definitions of two tables, apart from the numbers of key columns in the definitions of indexes
abbrev pub same_table : PlainTable → PlainTable → Bool
same_table a b = same_schema a.schema b.schema && same_shape a.shape b.shape && pointwise same_index a.indexes b.indexes
