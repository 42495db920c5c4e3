-- A tree of a table as text.
use Rattle.std.specs.Prelude.{ℕ, List, Result}
use Rattle.bt_value.specs.declared.refusal.Refusal.{Refusal}
use Rattle.bt_row.specs.declared.rows.schema.Column.{Column}
use Rattle.bt_value.specs.Results.{map_ok}
use Rattle.bt_table.specs.Calls.{NamedTree, Primary, Secondary, tree_named}
use Rattle.bt_table.specs.Indexes.{EntryTree}
use Rattle.bt_table.specs.Tables.{RowTree, TableState}
-- those of bt_show
pub use Rattle.bt_show.specs.Images.{deeper, key_start, key_line, pivot_line, leaf_line, inner_line, first_line, leaf_row_line}
pub use Rattle.bt_show.specs.Images.{message_line, node_text, children_text, others_text, image_text, row_text, values_of_op, change_text, entry_text}

-- ---- a tree of rows

-- a tree of rows with these columns, under its name
abbrev pub row_image : List Column → List ℕ → RowTree → List ℕ
row_image columns = image_text row_text (change_text columns)

-- ---- a tree of an index

-- a tree of an index, under its name
abbrev pub entry_image : List ℕ → EntryTree → List ℕ
entry_image = image_text entry_text entry_text

-- ---- the trees of a table

-- a tree of a table, under its name
abbrev pub image_of : List ℕ → NamedTree → List ℕ
image_of name (Primary table) = row_image table.schema.columns name table.tree
image_of name (Secondary table index) = entry_image name index.tree.1

-- the image of the tree of this name
abbrev pub image : TableState → List ℕ → Result (List ℕ) Refusal
image state name = map_ok (image_of name) (tree_named state name)
