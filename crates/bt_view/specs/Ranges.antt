-- The rows of a tree of a table, and those of a range.
use Rattle.std.specs.Prelude.{ℕ, List, map, reverse, take, Option, Result, Ok}
use Rattle.bt_value.specs.Results.{and_then, map_ok}
use Rattle.bt_row.specs.Schemas.{Schema}
use Rattle.bt_value.specs.declared.refusal.Refusal.{Refusal}
use Rattle.bt_value.specs.declared.value.Value.{Value}
use Rattle.bt_form.specs.Messages.{Rows, between}
use Rattle.bt_fanout.specs.Selections.{select}
use Rattle.bt_table.specs.Calls.{NamedTree, Primary, Secondary, tree_named}
use Rattle.bt_table.specs.Tables.{TableState}
use Rattle.bt_show.specs.declared.range.KeyRange.{KeyRange}
-- those of bt_show
pub use Rattle.bt_show.specs.Ranges.{column_in, index_schema, bound_as, range_as, all_keys, rows_within, index_row, when_whole, range_after, range_before, EndAt, GoesOn, GoesOnBefore}

-- ---- the columns of the rows of a tree

-- the columns of the rows of a tree, and the number of its key columns
abbrev pub schema_of : NamedTree → Schema
schema_of (Primary table) = table.schema
schema_of (Secondary table index) = index_schema table.schema index.def

-- the columns of the rows of the tree of this name
abbrev pub tree_columns : TableState → List ℕ → Result Schema Refusal
tree_columns state name = map_ok schema_of (tree_named state name)

-- ---- ranges

abbrev pub range_of : NamedTree → Option (List (List ℕ)) → Option (List (List ℕ)) → Result KeyRange Refusal
range_of tree from to = range_as (take (schema_of tree).keys (schema_of tree).columns) from to

-- the rows of a tree by their keys: those of the table, or those that an index selects of them
abbrev pub rows_of_tree : NamedTree → Result (Rows (List Value)) Refusal
rows_of_tree (Primary table) = Ok table.rows
rows_of_tree (Secondary table index) = when_whole index.cover (select (index_row table.schema.keys index.def) table.rows)

-- the rows of a tree whose keys are in a range, by their keys; an index that is building is refused
abbrev pub rows_between : KeyRange → NamedTree → Result (Rows (List Value)) Refusal
rows_between range tree = map_ok (between range.from range.to) (rows_of_tree tree)

-- a page of a tree: the first of these rows, at most this many
abbrev pub page_of : KeyRange → ℕ → NamedTree → Result (Rows (List Value)) Refusal
page_of range limit tree = map_ok (take limit) (rows_between range tree)

-- a page of the tree of this name
abbrev pub page : TableState → List ℕ → KeyRange → ℕ → Result (Rows (List Value)) Refusal
page state name range limit = and_then (page_of range limit) (tree_named state name)

-- the last page of a tree: the last of these rows, at most this many, in descending order of their keys
abbrev pub last_page_of : KeyRange → ℕ → NamedTree → Result (Rows (List Value)) Refusal
last_page_of range limit tree = map_ok (λ rows. take limit (reverse rows)) (rows_between range tree)

-- the last page of the tree of this name
abbrev pub last_page : TableState → List ℕ → KeyRange → ℕ → Result (Rows (List Value)) Refusal
last_page state name range limit = and_then (last_page_of range limit) (tree_named state name)

-- the rows of a range of a tree by their keys, or the first of these refusals: of the bounds, and of an index that is building
abbrev pub scan_with_keys_of : Option (List (List ℕ)) → Option (List (List ℕ)) → NamedTree → Result (Rows (List Value)) Refusal
scan_with_keys_of from to tree = and_then (λ range. map_ok (between range.from range.to) (rows_of_tree tree)) (range_of tree from to)

-- the rows of a range of the tree of this name by their keys
abbrev pub scan_with_keys : TableState → List ℕ → Option (List (List ℕ)) → Option (List (List ℕ)) → Result (Rows (List Value)) Refusal
scan_with_keys state name from to = and_then (scan_with_keys_of from to) (tree_named state name)

-- the rows alone
abbrev pub scan : TableState → List ℕ → Option (List (List ℕ)) → Option (List (List ℕ)) → Result (List (List Value)) Refusal
scan state name from to = map_ok (map (λ row. row.1)) (scan_with_keys state name from to)
