-- Which key a row of a table is under, and what is true of a table between any two calls.
use Rattle.std.specs.Prelude.{◌≡◌, ◌≤◌, true, length, List, [], ◌∷◌, T, map, take}
use Rattle.std.specs.FinMap.{is_sorted}
use Rattle.std.specs.List.{All}
use Rattle.bt_row.specs.Schemas.{Schema}
use Rattle.bt_value.specs.Values.{values_cmp}
use Rattle.bt_value.specs.declared.value.Value.{Value}
use Rattle.bt_form.specs.Fits.{HasShape}
use Rattle.bt_form.specs.Flushes.{holds}
use Rattle.bt_form.specs.Messages.{Rows}
use Rattle.bt_form.specs.Trees.{Shape}
use Rattle.bt_fanout.specs.Definitions.{kinds_of}
use Rattle.bt_fanout.specs.Effects.{entry_effect, entry_meaning, row_effect, row_meaning}
use Rattle.bt_fanout.specs.Entries.{Definition, SuitsKinds, entry_of}
use Rattle.bt_fanout.specs.Promises.{index_of}
use Rattle.bt_fanout.specs.Selections.{select}
use Rattle.bt_batch.specs.Batches.{RowMessages}
use Rattle.bt_table.specs.Indexes.{Index, is_complete}
use Rattle.bt_table.specs.Tables.{PlainTable, TableState, Intact, Lost}
-- each row is under the code of its key columns, and is of the schema: it has one value of each column's kind, within the range of the kind
pub use Rattle.bt_keycode.specs.Standing.{AllStand, Stands}
-- a message is of a schema: from a row that belongs at its key, or from none, it gives one that belongs there, or none
pub use Rattle.bt_batch.specs.Changes.{AreOfSchema, IsOfSchema}

-- an index is sound beside rows: its definition is one of the schema, its tree fits the shape of the table and holds what its definition selects of the rows
-- that it covers
pub record IsSoundIndex (schema : Schema) (shape : Shape) (rows : Rows (List Value)) (index : Index) : Type 0 where
  pub suits : SuitsKinds index.def (kinds_of schema.columns)
  pub keys : index.def.keys ≡ schema.keys
  pub shaped : index.tree.0 ≡ shape
  pub tree : HasShape entry_meaning.weigh shape index.tree.1
  pub held : holds entry_effect index.tree.1 ≡ index_of index.def index.cover rows

-- an index that is complete holds exactly the entries that its definition selects from the rows
abbrev pub HoldsSelection : Rows (List Value) → Index → Type 0
HoldsSelection rows index = is_complete index ≡ true → holds entry_effect index.tree.1 ≡ select (entry_of index.def) rows

-- each complete index of a table that is not lost holds exactly the entries that its definition selects from the rows now
abbrev pub CompleteIndexesHold : TableState → Type 0
CompleteIndexesHold (Intact table) = All (HoldsSelection table.rows) table.indexes
CompleteIndexesHold Lost = Unit {0}

-- each of the indexes is sound
abbrev pub AreSoundIndexes : Schema → Shape → Rows (List Value) → List Index → Type 0
AreSoundIndexes schema shape rows [] = Unit {0}
AreSoundIndexes schema shape rows (index ∷ indexes) = IsSoundIndex schema shape rows index × AreSoundIndexes schema shape rows indexes

-- its tree fits its shape and holds its rows, each row is under the code of its key columns and is of the schema, the key columns of the schema are columns
-- of it, and its indexes are sound
pub record IsSoundTable (table : PlainTable) : Type 0 where
  pub tree : HasShape row_meaning.weigh table.shape table.tree
  pub held : holds row_effect table.tree ≡ table.rows
  pub rows : AllStand table.schema table.rows
  pub keys : table.schema.keys ≤ length table.schema.columns
  pub indexes : AreSoundIndexes table.schema table.shape table.rows table.indexes

-- A table is sound: it is intact, its tree fits its shape and holds its rows, each row is under the code of its key columns and is of the schema, and each
-- index holds what its definition selects of the rows that it covers.
abbrev pub IsSound : TableState → Type 0
IsSound (Intact table) = IsSoundTable table
IsSound Lost = ⊥

-- it is sound, if it is intact
abbrev pub IsSoundUnlessLost : TableState → Type 0
IsSoundUnlessLost (Intact table) = IsSoundTable table
IsSoundUnlessLost Lost = Unit {0}

-- what is true of a table between any two calls: unless it is lost, it is sound, so each complete index holds what it selects
pub record IsConsistent (state : TableState) : Type 0 where
  pub complete : CompleteIndexesHold state
  pub sound : IsSoundUnlessLost state

-- the rows strictly rise by the values of their key columns
abbrev pub KeysRise : Schema → Rows (List Value) → Type 0
KeysRise schema rows = T (is_sorted values_cmp (map (λ row. (take schema.keys row.1, row.1)) rows))

-- a definition is one of the schema of a table, if it is intact
abbrev pub Suits : TableState → Definition → Type 0
Suits Lost def = Unit {0}
Suits (Intact table) def = SuitsKinds def (kinds_of table.schema.columns) × (def.keys ≡ table.schema.keys)

-- messages are of the schema of a table, if it is intact
abbrev pub SuitMessages : TableState → RowMessages → Type 0
SuitMessages Lost messages = Unit {0}
SuitMessages (Intact table) messages = AreOfSchema table.schema messages

-- a table is intact and has this schema
abbrev pub HasSchema : TableState → Schema → Type 0
HasSchema Lost schema = ⊥
HasSchema (Intact table) schema = schema ≡ table.schema
