-- A table stays sound under a batch, and when its indexes or its trees change. Serves the invariant of a table.
use Rattle.std.proofs.Common.{ℕ, arith, ◌+◌, ◌≡◌, ◌∙◌, ◌++◌, Bool, true, false, not, List, [], ◌∷◌, refl, sym, ap, subst, T, Option, Some, None, IfSome}
use Rattle.std.specs.FinMap.{is_sorted}
use Rattle.std.specs.List.{list_all}
use Rattle.bt_row.specs.Schemas.{Schema}
use Rattle.bt_value.specs.Refusals.{lowest}
use Rattle.bt_value.specs.declared.refusal.Refusal.TheVariants.{Building, NotEmpty}
use Rattle.bt_value.specs.declared.value.Value.{Value}
use Rattle.bt_keycode.specs.Keys.{key_cmp}
use Rattle.bt_form.specs.Fits.{HasShape}
use Rattle.bt_form.specs.Flushes.{holds}
use Rattle.bt_form.specs.Messages.{Meaning, Rows, rows_after}
use Rattle.bt_form.specs.Trees.{Shape, Tree}
use Rattle.bt_node.proofs.offered.PackedTrees.{drained-has_shape, drained-holds, packed-has_shape, packed-holds, rebuilt-has_shape, rebuilt-holds}
use Rattle.bt_node.proofs.offered.ShapedTrees.{holds-sorted}
use Rattle.bt_fanout.specs.Effects.{entry_effect, entry_meaning, row_effect, row_meaning}
use Rattle.bt_batch.specs.Batches.{RowMessages}
use Rattle.bt_value.specs.Results.{one_if}
use Rattle.bt_table.specs.Standing.{AllStand, AreOfSchema, IsSoundIndex, IsSoundTable, Suits}
use Rattle.bt_table.specs.Tables.{Intact, PlainTable, after_batch}
use Rattle.bt_fanout.specs.Entries.{Definition}
use Rattle.bt_fanout.proofs.offered.Suiting.{of_nothing}
use Rattle.bt_table.specs.Calls.{Upkeep, Draining, Rebuilding, renewed_tree, renewed_index, with_index, with_index_at, with_renewed_index, with_renewed_rows, with_rows, without_index}
use Rattle.bt_table.specs.Indexes.{Index, built_index, empty_index, index_named, is_complete}
use Rattle.bt_table.proofs.Indexes.{all_packed-sound, built-sound, indexes_stay_sound, sound-append, sound-found, sound-remove, sound-set}
use Rattle.bt_table.proofs.Sinks.{has_shape-after_batch, holds-after_batch}
use Rattle.bt_table.proofs.Standing.{rows_after-stand}

-- ---- tables

-- the keys of the rows of a sound table rise
pub rows_sorted : (table : PlainTable) → IsSoundTable table → T (is_sorted key_cmp table.rows)
rows_sorted table sound = subst (λ rows. T (is_sorted key_cmp rows)) sound.held (holds-sorted row_meaning table.shape table.tree sound.tree)

pub batch_keeps_sound : (table : PlainTable) (batch : RowMessages) → AreOfSchema table.schema batch → IsSoundTable table → IsSoundTable (after_batch table batch)
batch_keeps_sound table batch fit sound =
    let rows = rows_after-stand table.schema batch table.rows fit sound.rows in
    record {
      tree = has_shape-after_batch table.shape table.tree batch sound.tree;
      held = holds-after_batch table.shape table.tree batch sound.tree ∙ ap (rows_after row_effect batch) sound.held;
      rows = rows;
      keys = sound.keys;
      indexes = indexes_stay_sound table.schema table.shape table.rows batch (rows_sorted table sound) sound.rows rows table.indexes sound.indexes;
    }

-- a new index of a definition of the schema
pub with_index-sound : (table : PlainTable) (name : List ℕ) (def : Definition) → Suits (Intact table) def → IsSoundTable table → IsSoundTable (with_index table name def)
with_index-sound table name def suits sound = record {
  tree = sound.tree;
  held = sound.held;
  rows = sound.rows;
  keys = sound.keys;
  indexes = sound-append table.schema table.shape table.rows table.indexes (empty_index table.shape name def ∷ []) sound.indexes (
    record {
      suits = suits.0;
      keys = suits.1;
      shaped = refl;
      tree = record { roomy = sound.tree.roomy; levels = 0; fits = record { lies = tt; sized = omega arith } };
      held = sym (of_nothing def table.rows);
    },
    tt,
  );
}

-- with one index fewer
pub without_index-sound : (table : PlainTable) (place : ℕ) → IsSoundTable table → IsSoundTable (without_index table place)
without_index-sound table place sound = record {
  tree = sound.tree;
  held = sound.held;
  rows = sound.rows;
  keys = sound.keys;
  indexes = sound-remove table.schema table.shape table.rows table.indexes place sound.indexes;
}

-- ---- rows that are loaded, and trees that are renewed

pub none_building : (complete bare : Bool) → lowest (one_if (not complete) Building ++ one_if (not bare) NotEmpty) ≡ None → complete ≡ true
none_building true bare allowed = refl
none_building false true allowed = absurd cc
none_building false false allowed = absurd cc

-- rows under their keys, in the order of their keys, in a table whose indexes are complete
pub with_rows-sound : (table : PlainTable) (rows : Rows (List Value)) → AllStand table.schema rows → T (is_sorted key_cmp rows) → list_all is_complete table.indexes ≡ true → IsSoundTable table
    → IsSoundTable (with_rows table rows)
with_rows-sound table rows stand sorted complete sound = record {
  tree = packed-has_shape row_meaning.weigh table.shape sound.tree.roomy rows sorted;
  held = packed-holds row_meaning.weigh table.shape sound.tree.roomy rows sorted row_effect;
  rows = stand;
  keys = sound.keys;
  indexes = all_packed-sound table.schema table.shape rows sorted stand table.rows table.indexes sound.indexes complete;
}

module _ {V M : Type 0} (meaning : Meaning V M) (shape : Shape) (t : Tree V M) (has : HasShape meaning.weigh shape t) where
  pub renewed-has_shape : (upkeep : Upkeep) → HasShape meaning.weigh shape (renewed_tree upkeep meaning shape t)
  renewed-has_shape Draining = drained-has_shape meaning shape t has
  renewed-has_shape Rebuilding = rebuilt-has_shape meaning shape t has

  pub renewed-holds : (upkeep : Upkeep) → holds meaning.effect (renewed_tree upkeep meaning shape t) ≡ holds meaning.effect t
  renewed-holds Draining = drained-holds meaning shape t has
  renewed-holds Rebuilding = rebuilt-holds meaning shape t has

pub with_renewed_rows-sound : (upkeep : Upkeep) (table : PlainTable) → IsSoundTable table → IsSoundTable (with_renewed_rows upkeep table)
with_renewed_rows-sound upkeep table sound = record {
  tree = renewed-has_shape row_meaning table.shape table.tree sound.tree upkeep;
  held = renewed-holds row_meaning table.shape table.tree sound.tree upkeep ∙ sound.held;
  rows = sound.rows;
  keys = sound.keys;
  indexes = sound.indexes;
}

renewed_index-sound : (upkeep : Upkeep) (schema : Schema) (shape : Shape) (rows : Rows (List Value)) (index : Index) → IsSoundIndex schema shape rows index
    → IsSoundIndex schema shape rows (renewed_index upkeep index)
renewed_index-sound upkeep schema shape rows index sound = record {
  suits = sound.suits;
  keys = sound.keys;
  shaped = sound.shaped;
  tree = subst (λ (s : Shape). HasShape entry_meaning.weigh shape (renewed_tree upkeep entry_meaning s index.tree.1)) (sym sound.shaped)
      (renewed-has_shape entry_meaning shape index.tree.1 sound.tree upkeep);
  held = ap (λ (s : Shape). holds entry_effect (renewed_tree upkeep entry_meaning s index.tree.1)) sound.shaped ∙ renewed-holds entry_meaning shape index.tree.1 sound.tree upkeep ∙ sound.held;
}

-- a table with a sound index at a place
pub with_index_at-sound : (table : PlainTable) (place : ℕ) (index : Index) → IsSoundIndex table.schema table.shape table.rows index → IsSoundTable table
    → IsSoundTable (with_index_at table place index)
with_index_at-sound table place index one sound = record {
  tree = sound.tree;
  held = sound.held;
  rows = sound.rows;
  keys = sound.keys;
  indexes = sound-set table.schema table.shape table.rows table.indexes place index sound.indexes one;
}

module _ (table : PlainTable) (name : List ℕ) (found : ℕ × Index) (is : index_named name table.indexes ≡ Some found) (sound : IsSoundTable table) where
  -- an index that is found is one of those of the table
  pub found-sound : IsSoundIndex table.schema table.shape table.rows found.1
  found-sound = subst (λ (f : Option (ℕ × Index)). IfSome f (λ g. IsSoundIndex table.schema table.shape table.rows g.1)) is
      (sound-found table.schema table.shape table.rows 0 name table.indexes sound.indexes)

  pub with_renewed_index-sound : (upkeep : Upkeep) → IsSoundTable (with_renewed_index upkeep table found)
  with_renewed_index-sound upkeep =
      with_index_at-sound table found.0 (renewed_index upkeep found.1) (renewed_index-sound upkeep table.schema table.shape table.rows found.1 found-sound) sound

  pub with_built_index-sound : (n : ℕ) → IsSoundTable (with_index_at table found.0 (built_index n table.rows found.1))
  with_built_index-sound n =
      with_index_at-sound table found.0 (built_index n table.rows found.1) (built-sound table.schema table.shape table.rows (rows_sorted table sound) sound.rows n found.1 found-sound) sound
