-- What the steps of a compaction know of a table.
use Rattle.std.specs.List.{list_all}
use Rattle.std.specs.Prelude.{ℕ, ◌≡◌, List, true}
use Rattle.bt_value.specs.declared.value.Value.{Value}
use Rattle.bt_value.specs.declared.value.Value.TheVariants as value
use Rattle.bt_row.specs.declared.rows.schema.Column.{Column}
use Rattle.bt_table.specs.Indexes.{indexes_of_refs, is_complete}
use Rattle.bt_table.specs.Tables.{Intact, Lost, PlainTable, TableState, held_by}
use Rattle.bt_table.specs.declared.table.TreeRefs.{TreeRefs}
use Rattle.bt_snapshot.specs.Snapshots.{AreShown, definitions_of, dump_of, text_of}

-- the name of a column as a value
abbrev pub name_value : Column → Value
name_value column = value.Text column.name

-- the table of borrowed trees
abbrev pub table_of : TreeRefs → PlainTable
table_of trees = held_by trees.schema.now trees.rows.now (indexes_of_refs trees.indexes)

-- a table is not lost, and its indexes are complete
abbrev pub IsWhole : TableState → Type 0
IsWhole Lost = ⊥
IsWhole (Intact table) = list_all is_complete table.indexes ≡ true

-- the text of a snapshot is the dump of the rows that a table shows, if it is not lost
abbrev pub HasDump : TableState → List ℕ → Type 0
HasDump Lost payload = Unit {0}
HasDump (Intact table) payload = (rows : List (List Value)) → AreShown table rows → text_of payload ≡ dump_of table.schema.columns rows

-- two tables that are not lost have the same definitions
abbrev pub HaveSameDefinitions : TableState → TableState → Type 0
HaveSameDefinitions (Intact old) (Intact new) = definitions_of new ≡ definitions_of old
HaveSameDefinitions Lost new = ⊥
HaveSameDefinitions old Lost = ⊥
