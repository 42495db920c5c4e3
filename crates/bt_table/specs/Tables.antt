-- A table, and how a batch changes it.
use Rattle.std.specs.Prelude.{List, [], Option, Some, None}
use Rattle.bt_row.specs.Ops.{Change}
use Rattle.bt_row.specs.Schemas.{Schema}
use Rattle.bt_value.specs.declared.value.Value.{Value}
use Rattle.bt_message.specs.Messages.{sorted_batch}
use Rattle.bt_message.specs.declared.message.Message.{Message}
use Rattle.bt_form.specs.Flushes.{holds, sunk}
use Rattle.bt_form.specs.Messages.{Rows, rows_after}
use Rattle.bt_form.specs.Trees.{Shape, Tree, leaf}
use Rattle.bt_batch.specs.Batches.{RowMessages}
use Rattle.bt_table.specs.Indexes.{Index, indexes_after, indexes_of}
use Rattle.bt_table.specs.declared.index.IndexHead.{IndexHead}
use Rattle.bt_table.specs.declared.trees.Trees.{Trees}
use Rattle.bt_fanout.specs.Effects.{row_effect, row_meaning}

-- a tree of rows
abbrev pub RowTree : Type 0
RowTree = Tree (List Value) (Message (List Value) Change)

-- a table: its columns, how large the nodes of its trees may be, its rows by their key codes, the tree of its rows, and its indexes in order of creation
pub record PlainTable : Type 0 where
  pub schema : Schema
  pub shape : Shape
  pub rows : Rows (List Value)
  pub tree : RowTree
  pub indexes : List Index

-- the state of a table as a contract sees it: the table is intact, or it lost its trees when memory ran out
pub data TableState : Type 0 where
  Intact : (table : PlainTable) → TableState
  Lost : TableState

-- a table with no rows and no indexes: its tree is one leaf
abbrev pub empty_table : Schema → Shape → PlainTable
empty_table schema shape = record { schema = schema; shape = shape; rows = []; tree = leaf []; indexes = [] }

-- a table with these indexes, whose rows are what its tree holds
abbrev pub held_by : Schema → Shape × RowTree → List Index → PlainTable
held_by schema tree indexes = record { schema = schema; shape = tree.0; rows = holds row_effect tree.1; tree = tree.1; indexes = indexes }

-- a table after the messages of a batch: its rows take them in order, its tree takes them sorted by key, and each index takes what they mean for it
abbrev pub after_batch : PlainTable → RowMessages → PlainTable
after_batch table batch = record table {
  rows = rows_after row_effect batch table.rows;
  tree = sunk row_meaning table.shape table.tree (sorted_batch batch);
  indexes = indexes_after table.rows batch table.indexes;
}

-- the table of a schema by the heads of its indexes and its trees, if it still has them
abbrev pub state_of : Schema → List IndexHead → Option Trees → TableState
state_of schema heads None = Lost
state_of schema heads (Some trees) = Intact (held_by schema trees.rows (indexes_of heads trees.entries.items))
