-- The form of a table that depends only on its columns, its shape and its rows.
use Rattle.std.specs.Prelude.{◌≡◌, Bool, List, Ok, Result, codes, map, true, ℕ}
use Rattle.std.specs.List.{list_all}
use Rattle.bt_value.specs.declared.refusal.Refusal.{Refusal}
use Rattle.bt_value.specs.declared.value.Value.{Value}
use Rattle.bt_flush.specs.Drains.{packed}
use Rattle.bt_form.specs.Messages.{Rows}
use Rattle.bt_fanout.specs.Entries.{entry_of}
use Rattle.bt_fanout.specs.Selections.{select}
use Rattle.bt_value.specs.Results.{and_then}
use Rattle.bt_table.specs.Calls.{Call, Load, NamedTree, Primary, Rebuild, Rebuilding, Secondary, loaded_rows, renewed_index, step, tree_named, with_renewed_rows, with_rows}
use Rattle.bt_table.specs.Indexes.{is_complete}
use Rattle.bt_table.specs.Tables.{Intact, PlainTable, TableState}
use Rattle.bt_view.specs.Images.{entry_image, image, row_image}

-- whether a tree covers all rows of its table: the tree of the rows does, and that of a complete index
abbrev pub is_of_all_rows : NamedTree → Bool
is_of_all_rows (Primary table) = true
is_of_all_rows (Secondary table index) = is_complete index

-- The image of a tree that is built from scratch: from the rows of the table, or from the entries that the definition of an index selects of them. Apart from
-- the columns and the shape it depends on nothing else of the table.
abbrev pub image_from_scratch : List ℕ → NamedTree → List ℕ
image_from_scratch name (Primary table) = row_image table.schema.columns name (packed table.shape table.rows)
image_from_scratch name (Secondary table index) = entry_image name (packed table.shape (select (entry_of index.def) table.rows))

-- the image of the tree of this name after a call
abbrev pub image_after : TableState → Call → List ℕ → Result (List ℕ) Refusal
image_after state call name = and_then (λ done. image done.0 name) (step state call)

-- ---- one table

-- A tree of all rows that is rebuilt has the image of the tree that is built from scratch.
abbrev pub RebuildsFromScratch : PlainTable → List ℕ → Type 0
RebuildsFromScratch table name =
    (tree : NamedTree) →
    tree_named (Intact table) name ≡ Ok tree →
    is_of_all_rows tree ≡ true →
    image_after (Intact table) (Rebuild name) name ≡ Ok (image_from_scratch name tree)

-- After a load each tree has this image.
abbrev pub LoadsFromScratch : PlainTable → List ℕ → List ℕ → Type 0
LoadsFromScratch table text name =
    (rows : Rows (List Value)) (tree : NamedTree) →
    loaded_rows table text ≡ Ok rows →
    tree_named (Intact (with_rows table rows)) name ≡ Ok tree →
    image_after (Intact table) (Load text) name ≡ Ok (image_from_scratch name tree)

-- a table after each of its trees was rebuilt
abbrev pub all_rebuilt : PlainTable → PlainTable
all_rebuilt table = record (with_renewed_rows Rebuilding table) { indexes = map (renewed_index Rebuilding) table.indexes }

-- Then a table without an index that is building is equal to the table that has loaded its rows.
abbrev pub IsLoadedOnceRebuilt : PlainTable → Type 0
IsLoadedOnceRebuilt table =
    list_all is_complete table.indexes ≡ true →
    all_rebuilt table ≡ with_rows table table.rows

-- ---- two tables

-- two tables have the same columns, shape and rows
pub record HaveSameRows (first second : PlainTable) : Type 0 where
  pub columns : first.schema.columns ≡ second.schema.columns
  pub shape : first.shape ≡ second.shape
  pub rows : first.rows ≡ second.rows

-- two trees are those of the rows of their tables, or those of indexes of the same definition
abbrev pub AreOfOneDefinition : NamedTree → NamedTree → Type 0
AreOfOneDefinition (Primary first) (Primary second) = Unit {0}
AreOfOneDefinition (Primary first) (Secondary second index) = ⊥
AreOfOneDefinition (Secondary first index) (Primary second) = ⊥
AreOfOneDefinition (Secondary first index) (Secondary second other) = index.def ≡ other.def

-- Trees of the same definition in tables with the same rows have the same image after they are rebuilt.
abbrev pub RebuildAlike : PlainTable → PlainTable → List ℕ → Type 0
RebuildAlike first second name =
    (tree other : NamedTree) →
    tree_named (Intact first) name ≡ Ok tree →
    tree_named (Intact second) name ≡ Ok other →
    AreOfOneDefinition tree other →
    is_of_all_rows tree ≡ true →
    is_of_all_rows other ≡ true →
    image_after (Intact first) (Rebuild name) name ≡ image_after (Intact second) (Rebuild name) name

-- Tables of one schema have the same rows if their trees of rows have the same image after they are rebuilt.
abbrev pub ImagesTellRows : PlainTable → PlainTable → Type 0
ImagesTellRows first second =
    first.schema ≡ second.schema →
    image_after (Intact first) (Rebuild (codes "primary")) (codes "primary") ≡ image_after (Intact second) (Rebuild (codes "primary")) (codes "primary") →
    first.rows ≡ second.rows
