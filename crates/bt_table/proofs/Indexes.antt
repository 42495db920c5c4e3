-- How a batch, a step of building or a load changes the indexes of a table, and that they are sound then. Serves the calls of a table.
use Rattle.std.proofs.Common.{ℕ, zero, suc, ◌+◌, ◌≡◌, ◌∙◌, ◌&&◌, Bool, T, List, [], ◌∷◌, ◌++◌, ap, arith, drop, false, get_or}
use Rattle.std.proofs.Common.{if◌then◌else◌, length, map, refl, set, slice_get, subst, sym, true, IfSome, Some}
use Rattle.std.proofs.lemmas.List.{set-get_or, set-set}
use Rattle.std.proofs.lemmas.List.Elements.{All-filter}
use Rattle.std.proofs.lemmas.Option.{get_or_from_slice_get}
use Rattle.std.specs.FinMap.{is_sorted}
use Rattle.std.specs.List.{All, list_all, remove}
use Rattle.bt_row.specs.Schemas.{Schema}
use Rattle.bt_value.specs.declared.value.Value.{Value}
use Rattle.bt_keycode.specs.Keys.{Key, key_cmp}
use Rattle.bt_message.specs.Effects.{Rows, rows_after}
use Rattle.bt_message.specs.Messages.{Messages, sorted_batch}
use Rattle.bt_messages.proofs.offered.Rows.{rows_after-sorted_batch}
use Rattle.bt_flush.specs.Drains.{packed}
use Rattle.bt_form.specs.Fits.{HasShape}
use Rattle.bt_form.specs.Flushes.{holds, sunk}
use Rattle.bt_form.specs.Trees.{Shape}
use Rattle.bt_node.proofs.offered.PackedTrees.{packed-has_shape, packed-holds}
use Rattle.bt_node.proofs.offered.ShapedTrees.{sunk-has_shape, sunk-holds}
use Rattle.bt_fanout.specs.Covers.{cover_after, is_covered, wider}
use Rattle.bt_fanout.specs.Definitions.{kinds_of}
use Rattle.bt_fanout.specs.Effects.{EntryMessage, SuitsEffect, effects_of, effects_within, entry_effect, entry_meaning, row_effect, sent_for_all}
use Rattle.bt_fanout.specs.Entries.{Definition, IsWithin, StandsUnder, SuitsKinds, entry_of}
use Rattle.bt_fanout.specs.Promises.{SuitsRows, Turns, index_of}
use Rattle.bt_fanout.specs.Selections as selection
use Rattle.bt_fanout.specs.Selections.{select}
use Rattle.bt_fanout.proofs.offered.Builds.{sorted-select, step_builds}
use Rattle.bt_fanout.proofs.offered.Covers.{IsAmong, effects-nothing, entry_changes-within, first_among_wider, second_among_wider}
use Rattle.bt_fanout.proofs.offered.Packets.{effects-sorted_batch}
use Rattle.bt_fanout.proofs.offered.Standing.{stands_under}
use Rattle.bt_fanout.proofs.offered.Suiting.{all_more, all_none, of_whole, suits_effects, suits_row}
use Rattle.bt_fanout.proofs.offered.Turns.{packet_turns}
use Rattle.bt_batch.specs.Batches.{RowMessages}
use Rattle.bt_table.specs.Indexes.{EntryTree, Index, advanced, building_packet, built_index, index_named_from, index_with, indexes_after}
use Rattle.bt_table.specs.Indexes.{indexes_of, is_complete, is_name_of, packed_index, packet_of, sent_count, sunk_index}
use Rattle.bt_table.specs.inside.IndexTrees.{covers_all, entry_tree, packet_for, count_for, sunk_tree, sunk_trees, widest}
use Rattle.bt_table.specs.Standing.{AllStand, AreSoundIndexes, HoldsSelection, IsSoundIndex}
use Rattle.bt_fanout.specs.declared.cover.Cover.{Cover}
use Rattle.bt_fanout.specs.declared.cover.Cover.TheVariants.{Nothing}
use Rattle.bt_fanout.specs.declared.effect.Effect.{Effect}
use Rattle.bt_table.specs.declared.index.IndexHead.{IndexHead}

-- rows of a schema meet the premises of the laws of an index
stand : (schema : Schema) (def : Definition) → def.keys ≡ schema.keys → (rows : Rows (List Value)) → AllStand schema rows → selection.EachStands (StandsUnder def (kinds_of schema.columns)) rows
stand schema def keys [] all = tt
stand schema def keys (row ∷ rows) all = (stands_under schema def row.0 row.1 keys all.0.fits all.0.placed, stand schema def keys rows all.1)

-- an index is sound after a packet that changes its entries to those of other rows, or of more rows that it covers
advanced-sound : (schema : Schema) (shape : Shape) (old new : Rows (List Value)) (index : Index) → IsSoundIndex schema shape old index → (packet : Messages EntryMessage) (cover : Cover)
    → rows_after entry_effect packet (index_of index.def index.cover old) ≡ index_of index.def cover new → IsSoundIndex schema shape new (advanced index packet cover)
advanced-sound schema shape old new index sound packet cover turned = record {
  suits = sound.suits;
  keys = sound.keys;
  shaped = sound.shaped;
  tree = subst (λ s. HasShape entry_meaning.weigh shape (sunk entry_meaning s index.tree.1 packet)) (sym sound.shaped) (sunk-has_shape entry_meaning shape index.tree.1 sound.tree packet);
  held = ap (λ s. holds entry_effect (sunk entry_meaning s index.tree.1 packet)) sound.shaped ∙ sunk-holds entry_meaning shape index.tree.1 sound.tree packet
      ∙ ap (rows_after entry_effect packet) sound.held ∙ turned;
}

module _ (schema : Schema) (shape : Shape) (rows : Rows (List Value)) (batch : RowMessages) (sorted : T (is_sorted key_cmp rows)) (before
    : AllStand schema rows) (after : AllStand schema (rows_after row_effect batch rows)) where
  turns : (index : Index) → IsSoundIndex schema shape rows index → Turns index.def index.cover batch rows (sorted_batch (sent_for_all index.def index.cover (effects_of batch rows)))
  turns index sound =
      packet_turns index.def index.cover (kinds_of schema.columns) batch rows sorted (stand schema index.def sound.keys rows before)
      (stand schema index.def sound.keys (rows_after row_effect batch rows) after)

  -- ---- what is sent

  packet_is : (head : IndexHead) (tree : Shape × EntryTree) → IsSoundIndex schema shape rows (index_with head tree)
      → packet_for (effects_of (sorted_batch batch) rows) head ≡ packet_of rows batch (index_with head tree)
  packet_is head tree sound = ap (λ effects. packet_for effects head) (effects-sorted_batch batch rows sorted) ∙ (turns (index_with head tree) sound).messages

  pub sunk_is : (heads : List IndexHead) (trees : List (Shape × EntryTree)) → AreSoundIndexes schema shape rows (indexes_of heads trees) →
      indexes_of heads (sunk_trees trees (map (packet_for (effects_of (sorted_batch batch) rows)) heads)) ≡ indexes_after rows batch (indexes_of heads trees)
  sunk_is [] trees sound = refl
  sunk_is (head ∷ heads) [] sound = refl
  sunk_is (head ∷ heads) (tree ∷ trees) sound = λ i. index_with head (sunk_tree tree (packet_is head tree sound.0 i)) ∷ sunk_is heads trees sound.1 i

  pub counts_are : (heads : List IndexHead) (trees : List (Shape × EntryTree)) → length trees ≡ length heads → AreSoundIndexes schema shape rows (indexes_of heads trees) →
      map (count_for (effects_of (sorted_batch batch) rows)) heads ≡ map (λ index. sent_count index (packet_of rows batch index)) (indexes_of heads trees)
  counts_are [] trees many sound = refl
  counts_are (head ∷ heads) [] many sound = absurd (omega (arith, many))
  counts_are (head ∷ heads) (tree ∷ trees) many sound =
      λ i. sent_count (index_with head tree) (packet_is head tree sound.0 i) ∷ counts_are heads trees (omega (arith, many)) sound.1 i

  -- the definitions suit the rows that the effects have
  pub indexes_suit : (heads : List IndexHead) (trees : List (Shape × EntryTree)) → length trees ≡ length heads → AreSoundIndexes schema shape rows (indexes_of heads trees)
      → All (λ head. All (SuitsEffect head.def) (effects_of (sorted_batch batch) rows)) heads
  indexes_suit [] trees many sound = all_none (λ head. All (SuitsEffect head.def) (effects_of (sorted_batch batch) rows))
  indexes_suit (head ∷ heads) [] many sound = absurd (omega (arith, many))
  indexes_suit (head ∷ heads) (tree ∷ trees) many sound =
      all_more (λ head. All (SuitsEffect head.def) (effects_of (sorted_batch batch) rows)) head heads
      (subst (All (SuitsEffect head.def)) (sym (effects-sorted_batch batch rows sorted))
      (suits_effects head.def (kinds_of schema.columns) sound.0.suits batch rows (stand schema head.def sound.0.keys rows before)
      (stand schema head.def sound.0.keys (rows_after row_effect batch rows) after)))
      (indexes_suit heads trees (omega (arith, many)) sound.1)

  -- ---- indexes after the batch

  index_stays_sound : (index : Index) → IsSoundIndex schema shape rows index → IsSoundIndex schema shape (rows_after row_effect batch rows) (sunk_index index (packet_of rows batch index))
  index_stays_sound index sound =
      let turned = turns index sound in
      advanced-sound schema shape rows (rows_after row_effect batch rows) index sound (packet_of rows batch index) index.cover
      (subst (λ p. rows_after entry_effect p (index_of index.def index.cover rows) ≡ index_of index.def index.cover (rows_after row_effect batch rows)) turned.messages turned.index)

  pub indexes_stay_sound : (indexes : List Index) → AreSoundIndexes schema shape rows indexes → AreSoundIndexes schema shape (rows_after row_effect batch rows) (indexes_after rows batch indexes)
  indexes_stay_sound [] sound = tt
  indexes_stay_sound (index ∷ indexes) sound = (index_stays_sound index sound.0, indexes_stay_sound indexes sound.1)

-- A batch may be sorted by key before the indexes are sent what it means.
module _ (schema : Schema) (shape : Shape) (rows : Rows (List Value)) (batch : RowMessages) (sorted : T (is_sorted key_cmp rows)) (before
    : AllStand schema rows) (after : AllStand schema (rows_after row_effect batch rows)) where
  sorted_after : AllStand schema (rows_after row_effect (sorted_batch batch) rows)
  sorted_after = subst (AllStand schema) (sym (rows_after-sorted_batch row_effect batch rows sorted)) after

  packet-sorted : (index : Index) → IsSoundIndex schema shape rows index → packet_of rows (sorted_batch batch) index ≡ packet_of rows batch index
  packet-sorted index sound =
      sym ((turns schema shape rows (sorted_batch batch) sorted before sorted_after index sound).messages)
      ∙ ap (λ (effects : List Effect). sorted_batch (sent_for_all index.def index.cover effects)) (effects-sorted_batch batch rows sorted)
      ∙ (turns schema shape rows batch sorted before after index sound).messages

  pub indexes-sorted : (indexes : List Index) → AreSoundIndexes schema shape rows indexes
      → indexes_after rows (sorted_batch batch) indexes ≡ indexes_after rows batch indexes
  indexes-sorted [] sound = refl
  indexes-sorted (index ∷ indexes) sound = λ i. sunk_index index (packet-sorted index sound.0 i) ∷ indexes-sorted indexes sound.1 i

  pub counts-sorted : (indexes : List Index) → AreSoundIndexes schema shape rows indexes
      → map (λ index. sent_count index (packet_of rows (sorted_batch batch) index)) indexes
      ≡ map (λ index. sent_count index (packet_of rows batch index)) indexes
  counts-sorted [] sound = refl
  counts-sorted (index ∷ indexes) sound = λ i. sent_count index (packet-sorted index sound.0 i) ∷ counts-sorted indexes sound.1 i

both_hold : (a b : Bool) → (a && b) ≡ true → (a ≡ true) × (b ≡ true)
both_hold true true h = (refl, refl)
both_hold true false h = cc
both_hold false b h = cc

-- ---- steps of building, and loads

-- a complete index holds what its definition selects
pub holds_selection : (schema : Schema) (shape : Shape) (rows : Rows (List Value)) (index : Index) → IsSoundIndex schema shape rows index → HoldsSelection rows index
holds_selection schema shape rows index sound = λ whole. sound.held ∙ of_whole index.def index.cover rows whole

module _ (schema : Schema) (shape : Shape) (rows : Rows (List Value)) (sorted : T (is_sorted key_cmp rows)) (stand_in : AllStand schema rows) where
  stands : (index : Index) → index.def.keys ≡ schema.keys → selection.EachStands (StandsUnder index.def (kinds_of schema.columns)) rows
  stands index keys = stand schema index.def keys rows stand_in

  pub built-sound : (n : ℕ) (index : Index) → IsSoundIndex schema shape rows index → IsSoundIndex schema shape rows (built_index n rows index)
  built-sound n index sound =
      advanced-sound schema shape rows rows index sound (building_packet n rows index) (cover_after n index.cover rows)
      (step_builds index.def (kinds_of schema.columns) rows sorted (stands index sound.keys) n index.cover)

  -- each row has the columns that a definition names
  all_within : (def : Definition) → SuitsKinds def (kinds_of schema.columns) → (some : Rows (List Value)) → selection.EachStands (StandsUnder def (kinds_of schema.columns)) some
      → All (λ row. IsWithin def (length row.1)) some
  all_within def suits [] all = all_none (λ row. IsWithin def (length row.1))
  all_within def suits (row ∷ some) all =
      all_more (λ row. IsWithin def (length row.1)) row some (suits_row def (kinds_of schema.columns) suits row.1 all.0.of_kinds) (all_within def suits some all.1)

  pub rows_within : (index : Index) → SuitsKinds index.def (kinds_of schema.columns) → index.def.keys ≡ schema.keys → All (λ row. IsWithin index.def (length row.1)) rows
  rows_within index suits keys = all_within index.def suits rows (stands index keys)

  suits_rows : (index : Index) → SuitsKinds index.def (kinds_of schema.columns) → index.def.keys ≡ schema.keys → SuitsRows index.def rows
  suits_rows index suits keys = record { within = rows_within index suits keys; sorted = sorted; kinds = kinds_of schema.columns; stand = stands index keys }

  module _ (old : Rows (List Value)) where
    pub each_suits : (heads : List IndexHead) (trees : List (Shape × EntryTree)) → length trees ≡ length heads → AreSoundIndexes schema shape old (indexes_of heads trees)
        → All (λ head. SuitsRows head.def rows) heads
    each_suits [] trees many sound = all_none (λ head. SuitsRows head.def rows)
    each_suits (head ∷ heads) [] many sound = absurd (omega (arith, many))
    each_suits (head ∷ heads) (tree ∷ trees) many sound =
        all_more (λ head. SuitsRows head.def rows) head heads (suits_rows (index_with head tree) sound.0.suits sound.0.keys) (each_suits heads trees (omega (arith, many)) sound.1)

    packed-sound : (index : Index) → IsSoundIndex schema shape old index → is_complete index ≡ true → IsSoundIndex schema shape rows (packed_index rows index)
    packed-sound index sound whole =
        let entries = select (entry_of index.def) rows in
        let rising = sorted-select (entry_of index.def) rows in
        record {
          suits = sound.suits;
          keys = sound.keys;
          shaped = sound.shaped;
          tree = subst (λ (s : Shape). HasShape entry_meaning.weigh shape (packed s entries)) (sym sound.shaped) (packed-has_shape entry_meaning.weigh shape sound.tree.roomy entries rising);
          held = ap (λ (s : Shape). holds entry_effect (packed s entries)) sound.shaped ∙ packed-holds entry_meaning.weigh shape sound.tree.roomy entries rising entry_effect
              ∙ sym (of_whole index.def index.cover rows whole);
        }

    pub all_packed-sound : (indexes : List Index) → AreSoundIndexes schema shape old indexes → list_all is_complete indexes ≡ true → AreSoundIndexes schema shape rows (map (packed_index rows) indexes)
    all_packed-sound [] sound whole = tt
    all_packed-sound (index ∷ indexes) sound whole =
        let both = both_hold (is_complete index) (list_all is_complete indexes) whole in
        (packed-sound index sound.0 both.0, all_packed-sound indexes sound.1 both.1)

    -- the tree that a load packs from the entries is that of the packed index
    entry_tree-is : (head : IndexHead) (tree : Shape × EntryTree) → IsSoundIndex schema shape old (index_with head tree)
        → index_with head (entry_tree shape rows head.def) ≡ packed_index rows (index_with head tree)
    entry_tree-is head tree sound =
        ap (λ (s : Shape). index_with head (entry_tree s rows head.def)) (sym sound.shaped)

    pub with_entry_trees : (heads : List IndexHead) (trees : List (Shape × EntryTree)) → length trees ≡ length heads → AreSoundIndexes schema shape old (indexes_of heads trees)
        → indexes_of heads (map (λ head. entry_tree shape rows head.def) heads) ≡ map (packed_index rows) (indexes_of heads trees)
    with_entry_trees [] trees many sound = refl
    with_entry_trees (head ∷ heads) [] many sound = absurd (omega (arith, many))
    with_entry_trees (head ∷ heads) (tree ∷ trees) many sound = λ i. entry_tree-is head tree sound.0 i ∷ with_entry_trees heads trees (omega (arith, many)) sound.1 i

-- ---- heads beside trees

pub length-sunk : (heads : List IndexHead) (trees : List (Shape × EntryTree)) (packet : IndexHead → Messages EntryMessage) → length trees ≡ length heads
    → length (sunk_trees trees (map packet heads)) ≡ length heads
length-sunk [] [] packet many = refl
length-sunk [] (tree ∷ trees) packet many = refl
length-sunk (head ∷ heads) [] packet many = absurd (omega (arith, many))
length-sunk (head ∷ heads) (tree ∷ trees) packet many = ap suc (length-sunk heads trees packet (omega (arith, many)))

pub length-indexes_of : (heads : List IndexHead) (trees : List (Shape × EntryTree)) → length trees ≡ length heads → length (indexes_of heads trees) ≡ length heads
length-indexes_of [] trees many = refl
length-indexes_of (head ∷ heads) [] many = absurd (omega (arith, many))
length-indexes_of (head ∷ heads) (tree ∷ trees) many = ap suc (length-indexes_of heads trees (omega (arith, many)))

pub complete_are : (heads : List IndexHead) (trees : List (Shape × EntryTree)) → length trees ≡ length heads → list_all covers_all heads ≡ list_all is_complete (indexes_of heads trees)
complete_are [] trees many = refl
complete_are (head ∷ heads) [] many = absurd (omega (arith, many))
complete_are (head ∷ heads) (tree ∷ trees) many = ap (λ rest. covers_all head && rest) (complete_are heads trees (omega (arith, many)))

-- the indexes from a place on begin with that of the place
pub index_at : (place : ℕ) (heads : List IndexHead) (trees : List (Shape × EntryTree)) (head : IndexHead) (tree : Shape × EntryTree)
    → slice_get heads place ≡ Some head → slice_get trees place ≡ Some tree
    → indexes_of (drop place heads) (drop place trees) ≡ index_with head tree ∷ indexes_of (drop (suc place) heads) (drop (suc place) trees)
index_at place [] trees head tree there beside = cc
index_at place (h ∷ heads) [] head tree there beside = cc
index_at zero (h ∷ heads) (t ∷ trees) head tree there beside =
    let same : h ≡ head = cc in
    let like : t ≡ tree = cc in
    λ i. index_with (same i) (like i) ∷ indexes_of heads trees
index_at (suc place) (h ∷ heads) (t ∷ trees) head tree there beside = index_at place heads trees head tree there beside

-- so the index at the place has a name, or the search goes on with the next one
module _ (name : List ℕ) (place : ℕ) (heads : List IndexHead) (trees : List (Shape × EntryTree)) (head : IndexHead) (tree : Shape
    × EntryTree) (there : slice_get heads place ≡ Some head) (beside : slice_get trees place ≡ Some tree) where
  named_at : index_named_from place name (indexes_of (drop place heads) (drop place trees))
      ≡ (if is_name_of name (index_with head tree) then Some (place, index_with head tree) else index_named_from (suc place) name (indexes_of (drop (suc place) heads) (drop (suc place) trees)))
  named_at = ap (index_named_from place name) (index_at place heads trees head tree there beside)

  pub is_named : is_name_of name (index_with head tree) ≡ true → index_named_from place name (indexes_of (drop place heads) (drop place trees)) ≡ Some (place, index_with head tree)
  is_named test =
      named_at ∙ ap (λ b. if b then Some (place, index_with head tree) else index_named_from (suc place) name (indexes_of (drop (suc place) heads) (drop (suc place) trees))) test

  pub next_named : is_name_of name (index_with head tree) ≡ false
      → index_named_from place name (indexes_of (drop place heads) (drop place trees)) ≡ index_named_from (place + 1) name (indexes_of (drop (place + 1) heads) (drop (place + 1) trees))
  next_named test =
      let next : suc place ≡ place + 1 = omega arith in
      named_at ∙ ap (λ b. if b then Some (place, index_with head tree) else index_named_from (suc place) name (indexes_of (drop (suc place) heads) (drop (suc place) trees))) test
      ∙ ap (λ n. index_named_from n name (indexes_of (drop n heads) (drop n trees))) next

pub indexes_of-append : (heads : List IndexHead) (trees : List (Shape × EntryTree)) (head : IndexHead) (tree : Shape × EntryTree) → length trees ≡ length heads
    → indexes_of (heads ++ head ∷ []) (trees ++ tree ∷ []) ≡ indexes_of heads trees ++ index_with head tree ∷ []
indexes_of-append [] [] head tree many = refl
indexes_of-append [] (t ∷ trees) head tree many = absurd (omega (arith, many))
indexes_of-append (h ∷ heads) [] head tree many = absurd (omega (arith, many))
indexes_of-append (h ∷ heads) (t ∷ trees) head tree many = ap (λ rest. index_with h t ∷ rest) (indexes_of-append heads trees head tree (omega (arith, many)))

pub indexes_of-remove : (place : ℕ) (heads : List IndexHead) (trees : List (Shape × EntryTree)) → length trees ≡ length heads
    → indexes_of (remove heads place) (remove trees place) ≡ remove (indexes_of heads trees) place
indexes_of-remove zero [] [] many = refl
indexes_of-remove (suc place) [] [] many = refl
indexes_of-remove place [] (t ∷ trees) many = absurd (omega (arith, many))
indexes_of-remove place (h ∷ heads) [] many = absurd (omega (arith, many))
indexes_of-remove zero (h ∷ heads) (t ∷ trees) many = refl
indexes_of-remove (suc place) (h ∷ heads) (t ∷ trees) many = ap (λ rest. index_with h t ∷ rest) (indexes_of-remove place heads trees (omega (arith, many)))

pub indexes_of-set : (place : ℕ) (heads : List IndexHead) (trees : List (Shape × EntryTree)) (head : IndexHead) (tree : Shape × EntryTree)
    → indexes_of (set heads place head) (set trees place tree) ≡ set (indexes_of heads trees) place (index_with head tree)
indexes_of-set zero [] trees head tree = refl
indexes_of-set (suc place) [] trees head tree = refl
indexes_of-set zero (h ∷ heads) [] head tree = refl
indexes_of-set (suc place) (h ∷ heads) [] head tree = refl
indexes_of-set zero (h ∷ heads) (t ∷ trees) head tree = refl
indexes_of-set (suc place) (h ∷ heads) (t ∷ trees) head tree = ap (λ rest. index_with h t ∷ rest) (indexes_of-set place heads trees head tree)

pub length-remove_same : {A B : Type 0} (place : ℕ) (xs : List A) (ys : List B) → length xs ≡ length ys → length (remove xs place) ≡ length (remove ys place)
length-remove_same zero [] [] many = refl
length-remove_same (suc place) [] [] many = refl
length-remove_same place [] (y ∷ ys) many = absurd (omega (arith, many))
length-remove_same place (x ∷ xs) [] many = absurd (omega (arith, many))
length-remove_same zero (x ∷ xs) (y ∷ ys) many = omega (arith, many)
length-remove_same (suc place) (x ∷ xs) (y ∷ ys) many = ap suc (length-remove_same place xs ys (omega (arith, many)))

-- an item put in a place where another item was put before
pub put_again : {A : Type 0} (place : ℕ) (xs between new : List A) (x y : A) → between ≡ set xs place x → new ≡ set between place y → new ≡ set xs place y
put_again place xs between new x y first last = last ∙ ap (λ zs. set zs place y) first ∙ set-set xs place x y

pub set_same : {A : Type 0} (place : ℕ) (xs : List A) (x : A) → slice_get xs place ≡ Some x → set xs place x ≡ xs
set_same place xs x there = ap (set xs place) (sym (get_or_from_slice_get xs place x x there)) ∙ set-get_or xs place x

-- ---- other lists of indexes

module _ (schema : Schema) (shape : Shape) (rows : Rows (List Value)) where
  pub sound-append : (indexes others : List Index) → AreSoundIndexes schema shape rows indexes → AreSoundIndexes schema shape rows others → AreSoundIndexes schema shape rows (indexes ++ others)
  sound-append [] others sound also = also
  sound-append (index ∷ indexes) others sound also = (sound.0, sound-append indexes others sound.1 also)

  pub sound-remove : (indexes : List Index) (place : ℕ) → AreSoundIndexes schema shape rows indexes → AreSoundIndexes schema shape rows (remove indexes place)
  sound-remove [] zero sound = tt
  sound-remove [] (suc place) sound = tt
  sound-remove (index ∷ indexes) zero sound = sound.1
  sound-remove (index ∷ indexes) (suc place) sound = (sound.0, sound-remove indexes place sound.1)

  pub sound-set : (indexes : List Index) (place : ℕ) (other : Index) → AreSoundIndexes schema shape rows indexes → IsSoundIndex schema shape rows other
      → AreSoundIndexes schema shape rows (set indexes place other)
  sound-set [] zero other sound one = tt
  sound-set [] (suc place) other sound one = tt
  sound-set (index ∷ indexes) zero other sound one = (one, sound.1)
  sound-set (index ∷ indexes) (suc place) other sound one = (sound.0, sound-set indexes place other sound.1 one)

  -- the index that a name finds is one of them
  pub sound-found : (place : ℕ) (name : List ℕ) (indexes : List Index) → AreSoundIndexes schema shape rows indexes
      → IfSome (index_named_from place name indexes) (λ found. IsSoundIndex schema shape rows found.1)
  sound-found place name [] sound = tt
  sound-found place name (index ∷ indexes) sound =
      elim (is_name_of name index) as (λ b. IfSome (if b then Some (place, index) else index_named_from (suc place) name indexes) (λ found. IsSoundIndex schema shape rows found.1)) [
        | true ↦ sound.0
        | false ↦ sound-found (suc place) name indexes sound.1
      ]

-- ---- what indexes are sent of the effects on the keys that one of them covers

stays_among : (cover : Cover) (heads : List IndexHead) (k : Key) → is_covered cover k ≡ true → is_covered (widest cover heads) k ≡ true
stays_among cover [] k is = is
stays_among cover (head ∷ heads) k is = stays_among (wider cover head.cover) heads k (first_among_wider cover head.cover k is)

module _ (batch : RowMessages) (rows : Rows (List Value)) where
  packet-within : (head : IndexHead) (wide : Cover) → IsAmong head.cover wide → packet_for (effects_within wide batch rows) head ≡ packet_for (effects_of batch rows) head
  packet-within head wide among = ap sorted_batch (entry_changes-within head.def head.cover wide among (effects_of batch rows))

  packets-within : (cover : Cover) (heads : List IndexHead) → map (packet_for (effects_within (widest cover heads) batch rows)) heads ≡ map (packet_for (effects_of batch rows)) heads
  packets-within cover [] = refl
  packets-within cover (head ∷ heads) =
      let wide = wider cover head.cover in
      λ i. packet-within head (widest wide heads) (λ k is. stays_among wide heads k (second_among_wider cover head.cover k is)) i ∷ packets-within wide heads i

  counts-within : (cover : Cover) (heads : List IndexHead) → map (count_for (effects_within (widest cover heads) batch rows)) heads ≡ map (count_for (effects_of batch rows)) heads
  counts-within cover [] = refl
  counts-within cover (head ∷ heads) =
      let wide = wider cover head.cover in
      λ i. record {
        name = head.name;
        count =
            length (packet-within head (widest wide heads) (λ k is. stays_among wide heads k (second_among_wider cover head.cover k is)) i);
      } ∷ counts-within
      wide heads i

  -- so the effects within the widest cover send each index the same messages as all effects
  module _ (heads : List IndexHead) (wide : Cover) (wide_is : wide ≡ widest Nothing heads) (effects : List Effect) (effects_are : effects ≡ effects_within wide batch rows) where
    pub all_packets : map (packet_for effects) heads ≡ map (packet_for (effects_of batch rows)) heads
    all_packets = ap (λ effects. map (packet_for effects) heads) (effects_are ∙ ap (λ wide. effects_within wide batch rows) wide_is) ∙ packets-within Nothing heads

    pub all_counts : map (count_for effects) heads ≡ map (count_for (effects_of batch rows)) heads
    all_counts = ap (λ effects. map (count_for effects) heads) (effects_are ∙ ap (λ wide. effects_within wide batch rows) wide_is) ∙ counts-within Nothing heads

  -- if no key is covered, there are no effects on covered keys
  pub none_within : (cover : Cover) → cover ≡ Nothing → [] ≡ effects_within cover batch rows
  none_within cover is = sym (ap (λ c. effects_within c batch rows) is ∙ effects-nothing batch rows)

  -- the definitions suit the rows that the effects on them have
  pub suit-within : (wide : Cover) (heads : List IndexHead) → All (λ head. All (SuitsEffect head.def) (effects_of batch rows)) heads
      → All (λ head. All (SuitsEffect head.def) (effects_within wide batch rows)) heads
  suit-within wide heads suit i d l = All-filter (λ effect. is_covered wide effect.key) (SuitsEffect (get_or heads i d).def) (effects_of batch rows) (suit i d l)
