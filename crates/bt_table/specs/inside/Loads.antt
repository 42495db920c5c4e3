-- The trees of a table whose rows are loaded.
use Rattle.std.specs.List.{All}
use Rattle.std.specs.Prelude.{ℕ, ◌≡◌, List, length, map, None, Ok, Result}
use Rattle.bt_row.specs.Schemas.{Schema}
use Rattle.bt_value.specs.declared.value.Value.{Value}
use Rattle.bt_keycode.specs.Standing.{RowMap}
use Rattle.bt_value.specs.Refusals.{lowest}
use Rattle.bt_value.specs.Results.{and_then}
use Rattle.bt_value.specs.declared.refusal.Refusal.{Refusal}
use Rattle.bt_load.specs.Loads.{text_rows}
use Rattle.bt_load.specs.Maps.{map_of}
use Rattle.bt_fanout.specs.Promises.{SuitsRows}
use Rattle.bt_table.specs.Calls.{load_refusals, unless_any}
use Rattle.bt_table.specs.Indexes.{indexes_of}
use Rattle.bt_flush.specs.Drains.{packed}
use Rattle.bt_form.specs.Trees.{Shape}
use Rattle.bt_table.specs.declared.index.IndexHead.{IndexHead}
use Rattle.bt_table.specs.declared.trees.Trees.{Trees}
use Rattle.bt_table.specs.inside.IndexTrees.{entry_tree}

-- trees are packed from rows with their keys and from the entries of indexes, and `count` is the number of rows
pub record ArePacked (shape : Shape) (pairs : RowMap) (heads : List IndexHead) (trees : Trees) (count : ℕ) : Type 0 where
  pub tree : trees.rows ≡ (shape, packed shape pairs)
  pub entries : trees.entries.items ≡ map (λ head. entry_tree shape pairs head.def) heads
  pub number : count ≡ length pairs

-- they are packed from the map of rows
pub record ArePackedOf (shape : Shape) (schema : Schema) (rows : List (List Value)) (heads : List IndexHead) (trees : Trees) (count : ℕ) : Type 0 where
  pub pairs : RowMap
  pub mapped : map_of schema.keys rows ≡ Ok pairs
  pub packed : ArePacked shape pairs heads trees count

-- indexes suit the rows of a text
abbrev pub AllSuitText : Schema → List IndexHead → List ℕ → Type 0
AllSuitText schema heads text =
    (rows : List (List Value)) (pairs : RowMap) → text_rows schema.columns text ≡ Ok rows → map_of schema.keys rows ≡ Ok pairs → All (λ head. SuitsRows head.def pairs) heads

-- the rows of a text by their keys, if they can be loaded into a table with these indexes and trees, or why they cannot
abbrev pub rows_to_load : Schema → List IndexHead → Trees → List ℕ → Result RowMap Refusal
rows_to_load schema heads trees text =
    and_then (map_of schema.keys) (and_then (unless_any (load_refusals (indexes_of heads trees.entries.items) trees.rows.1)) (text_rows schema.columns text))

-- trees are those of a text that is loaded into a table with these indexes and trees, and `count` is the number of its rows
pub record AreLoaded (schema : Schema) (heads : List IndexHead) (before : Trees) (text : List ℕ) (trees : Trees) (count : ℕ) : Type 0 where
  pub rows : List (List Value)
  pub read : text_rows schema.columns text ≡ Ok rows
  pub free : lowest (load_refusals (indexes_of heads before.entries.items) before.rows.1) ≡ None
  pub made : ArePackedOf before.rows.0 schema rows heads trees count

-- a text can be loaded into a table with these indexes and trees
pub record IsLoadable (schema : Schema) (heads : List IndexHead) (before : Trees) (text : List ℕ) : Type 0 where
  pub rows : List (List Value)
  pub read : text_rows schema.columns text ≡ Ok rows
  pub free : lowest (load_refusals (indexes_of heads before.entries.items) before.rows.1) ≡ None
  pub pairs : RowMap
  pub mapped : map_of schema.keys rows ≡ Ok pairs
