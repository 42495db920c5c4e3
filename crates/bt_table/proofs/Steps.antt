-- A table with these trees takes a batch, gets, builds or drops an index, loads rows, gets another tree, or is shown. Serves the calls of a table.
use Rattle.std.proofs.Common.{ℕ, zero, suc, arith, ◌≤◌, ◌<◌, ◌≡◌, ◌∙◌, ◌++◌, Bool, T, true, false, List, [], ◌∷◌, Option, Some, None, Ok, Err, ap, sym}
use Rattle.std.proofs.Common.{refl, subst, length, length-set, map, option_map, set, slice_get, if◌then◌else◌, ◌+◌, ◌||◌, is_some, nat_le, IfSome}
use Rattle.std.proofs.lemmas.Bool.{leb-false}
use Rattle.std.proofs.lemmas.List.{length-map, length_push}
use Rattle.std.specs.Prelude.{IsSome}
use Rattle.std.specs.FinMap.{find, is_sorted}
use Rattle.std.specs.List.{All, list_all, remove}
use Rattle.bt_value.specs.Refusals.{lowest}
use Rattle.bt_row.specs.Schemas.{Schema}
use Rattle.bt_value.specs.Results.{or_refused, unless, and_then, map_ok, one_if}
use Rattle.bt_value.specs.declared.refusal.Refusal.TheVariants.{AlreadyComplete, NameTaken, NoSuchTree, TooMany}
use Rattle.bt_value.specs.declared.value.Value.{Value}
use Rattle.bt_keycode.specs.Codes.{code_of}
use Rattle.bt_keycode.specs.Keys.{Key, key_cmp}
use Rattle.bt_load.specs.Loads.{text_rows}
use Rattle.bt_load.specs.Maps.{map_of}
use Rattle.bt_load.proofs.offered.Loaded.{map_of-sorted, text_rows-of}
use Rattle.bt_table.proofs.Loads.{map_of-stand}
use Rattle.bt_message.specs.Effects.{Rows, rows_after}
use Rattle.bt_message.specs.Messages.{Messages, sorted_batch}
use Rattle.bt_messages.proofs.offered.Pieces.{sorted-sorted_batch, sorted_batch-sorted}
use Rattle.bt_messages.proofs.offered.Rows.{rows_after-sorted_batch}
use Rattle.bt_flush.specs.Drains.{packed}
use Rattle.bt_form.specs.Flushes.{sunk}
use Rattle.bt_form.specs.Trees.{Shape, leaf}
use Rattle.bt_node.proofs.offered.PackedTrees.{packed-holds}
use Rattle.bt_fanout.specs.Covers.{cover_after, next_rows}
use Rattle.bt_fanout.specs.Effects.{EntryMessage, SuitsEffect, effects_of, entry_meaning, row_effect, row_meaning}
use Rattle.bt_rowtype.specs.declared.item.Item.{Item}
use Rattle.bt_batch.specs.Batches.{RowMessages, batch_refusals, messages_of, read_key}
use Rattle.bt_batch.proofs.offered.OfSchema.{batch_of_schema, length-batch, length-sorted_batch, sorted_of_schema}
use Rattle.bt_fanout.specs.Entries.{Definition, IsWithin}
use Rattle.bt_fanout.specs.Promises.{SuitsRows}
use Rattle.bt_fanout.specs.declared.cover.Cover.{Cover}
use Rattle.bt_table.specs.Calls.{Apply, ApplyMessages, BuildStep, Call, CreateIndex, Drain, Draining, DropIndex, Get, GetAt, IsStep, IsTextOfMessages}
use Rattle.bt_table.specs.Calls.{Load, Primary, Rebuild, Rebuilding, Secondary, ShowsIndex, ShowsRows, Upkeep, after_build, after_load, after_messages}
use Rattle.bt_table.specs.Calls.{built, dropped, index_refusals, is_bare, is_primary, load_refusals, most_indexes, renewed_tree, renewed_index, secondary}
use Rattle.bt_table.specs.Calls.{sent_counts, step, tree_named, unless_any, with_index, with_index_at, with_renewed}
use Rattle.bt_table.specs.Calls.{with_renewed_index, with_renewed_rows, with_rows, without_index}
use Rattle.bt_table.specs.Indexes.{EntryTree, Index, advanced, building_packet, built_index, index_named, index_of_ref, index_with, indexes_of, is_complete}
use Rattle.bt_table.specs.inside.IndexTrees.{empty_head, entry_tree, packet_for, count_for, sunk_tree, sunk_trees, with_cover}
use Rattle.bt_table.specs.inside.Parts.{AreSoundParts}
use Rattle.bt_table.specs.Standing.{AllStand, AreOfSchema, IsSoundIndex, IsSoundTable, SuitMessages, Suits}
use Rattle.bt_table.specs.Tables.{PlainTable, TableState, Intact, Lost, after_batch, held_by, state_of}
use Rattle.bt_table.specs.declared.index.IndexHead.{IndexHead}
use Rattle.bt_table.specs.declared.index.IndexRef.{IndexRef}
use Rattle.bt_table.specs.declared.reply.Reply.{Reply}
use Rattle.bt_table.specs.declared.reply.Reply.TheVariants.{Batch, Built, Created, Drained, Dropped, Loaded, Rebuilt, Row}
use Rattle.bt_table.specs.declared.reply.SentCount.{SentCount}
use Rattle.bt_table.specs.declared.trees.Trees.{Trees}
use Rattle.bt_table.proofs.Indexes.{counts-sorted, counts_are, each_suits, holds_selection, indexes_of-append, indexes_of-remove}
use Rattle.bt_table.proofs.Indexes.{indexes_of-set, indexes-sorted, indexes_suit, length-indexes_of, length-remove_same, length-sunk, put_again, rows_within, set_same, sunk_is}
use Rattle.bt_table.proofs.Indexes.{with_entry_trees}
use Rattle.bt_table.proofs.offered.KeyOrder.{keys_rise}
use Rattle.bt_table.proofs.Sinks.{stepped}
use Rattle.bt_table.proofs.Sound.{batch_keeps_sound, found-sound, none_building, renewed-holds, rows_sorted, with_built_index-sound}
use Rattle.bt_table.proofs.Sound.{with_renewed_index-sound, with_renewed_rows-sound, with_rows-sound, with_index-sound, without_index-sound}
use Rattle.bt_table.proofs.Standing.{rows_after-stand}

-- the call of an upkeep, and its reply
abbrev pub upkeep_call : Upkeep → List ℕ → Call
upkeep_call Draining name = Drain name
upkeep_call Rebuilding name = Rebuild name

abbrev pub upkeep_reply : Upkeep → List ℕ → Reply
upkeep_reply Draining name = Drained name
upkeep_reply Rebuilding name = Rebuilt name

upkeep_step : (upkeep : Upkeep) (table : PlainTable) (name : List ℕ)
    → step (Intact table) (upkeep_call upkeep name) ≡ map_ok (λ after. (Intact after, upkeep_reply upkeep name)) (with_renewed upkeep table name)
upkeep_step Draining table name = refl
upkeep_step Rebuilding table name = refl

-- what is taken is what was there
same : {A : Type 0} {found : Option A} {stood taken : A} → found ≡ Some stood → found ≡ Some taken → taken ≡ stood
same is took = cc

-- if a name is not refused, there may be one more index
below_most : (taken : Bool) (count : ℕ) → lowest (one_if taken NameTaken ++ one_if (nat_le most_indexes count) TooMany) ≡ None → count < most_indexes
below_most taken count free = go taken (nat_le most_indexes count) refl free
  where
    go : (taken full : Bool) → nat_le most_indexes count ≡ full → lowest (one_if taken NameTaken ++ one_if full TooMany) ≡ None → count < most_indexes
    go false false is free = leb-false most_indexes count is
    go false true is free = absurd cc
    go true false is free = absurd cc
    go true true is free = absurd cc

length-remove-le : {A : Type 0} (place : ℕ) (xs : List A) → length (remove xs place) ≤ length xs
length-remove-le zero [] = omega arith
length-remove-le (suc place) [] = omega arith
length-remove-le zero (x ∷ xs) = omega arith
length-remove-le (suc place) (x ∷ xs) = let h = length-remove-le place xs in omega arith

-- a table is not lost if an index can be created
pub has_trees : (schema : Schema) (heads : List IndexHead) (kept : Option Trees) (name : List ℕ) → lowest (index_refusals (state_of schema heads kept) name) ≡ None → IsSome kept
has_trees schema heads None name free = absurd cc
has_trees schema heads (Some trees) name free = refl

-- ---- messages of a batch

-- messages may be sorted by key before a sound table applies them
after-sorted : (table : PlainTable) → IsSoundTable table → (batch : RowMessages) → AreOfSchema table.schema batch
    → after_messages table (sorted_batch batch) ≡ after_messages table batch
after-sorted table sound batch fit =
    let sorted = rows_sorted table sound in
    let stand = rows_after-stand table.schema batch table.rows fit sound.rows in
    let rows = rows_after-sorted_batch row_effect batch table.rows sorted in
    let packet = sorted_batch-sorted (sorted_batch batch) (sorted-sorted_batch batch) in
    let indexes = indexes-sorted table.schema table.shape table.rows batch sorted sound.rows stand table.indexes sound.indexes in
    let counts = counts-sorted table.schema table.shape table.rows batch sorted sound.rows stand table.indexes sound.indexes in
    λ i. (
      Intact (record {
        schema = table.schema;
        shape = table.shape;
        rows = rows i;
        tree = sunk row_meaning table.shape table.tree (packet i);
        indexes = indexes i;
      }),
      Batch (length-sorted_batch batch i) (counts i),
    )

-- a batch that is not refused does what its messages do
text_is : (table : PlainTable) (items : List Item) → lowest (batch_refusals table.schema items) ≡ None
    → step (Intact table) (Apply items) ≡ Ok (after_messages table (messages_of table.schema items))
text_is table items allowed =
    let batch = messages_of table.schema items in
    ap (λ o. unless o (Intact (after_batch table batch), Batch (length items) (sent_counts table batch))) allowed
    ∙ (λ i. Ok (Intact (after_batch table batch), Batch (sym (length-batch table.schema items allowed) i) (sent_counts table batch)))

pub is_text_of_messages : (state : TableState) (items : List Item) → IsTextOfMessages state items
is_text_of_messages Lost items = tt
is_text_of_messages (Intact table) items = text_is table items

-- a table that has trees is the one that they hold
state_as_held : (schema : Schema) (heads : List IndexHead) (kept : Option Trees) (trees : Trees) → kept ≡ Some trees → (state : TableState)
    → state_of schema heads kept ≡ state → state ≡ Intact (held_by schema trees.rows (indexes_of heads trees.entries.items))
state_as_held schema heads kept trees is state was = sym was ∙ ap (state_of schema heads) is

-- messages that suit it are of its schema
pub fit_as_held : (schema : Schema) (heads : List IndexHead) (kept : Option Trees) (trees : Trees) → kept ≡ Some trees → (state : TableState)
    → state_of schema heads kept ≡ state → (messages : RowMessages) → SuitMessages state messages → AreOfSchema schema messages
fit_as_held schema heads kept trees is state was messages suits =
    subst (λ s. SuitMessages s messages) (state_as_held schema heads kept trees is state was) suits

-- the fields of a key are the text of its code
pub key_is_text : (schema : Schema) (heads : List IndexHead) (kept : Option Trees) (trees : Trees) → kept ≡ Some trees → (state : TableState)
    → state_of schema heads kept ≡ state → (fields : List (List ℕ)) (key : List Value) → read_key schema 1 fields ≡ Ok key → (code : Key)
    → code ≡ code_of key → step state (GetAt code) ≡ step state (Get fields)
key_is_text schema heads kept trees is state was fields key read code coded =
    let table = held_by schema trees.rows (indexes_of heads trees.entries.items) in
    let here = state_as_held schema heads kept trees is state was in
    ap (λ s. step s (GetAt code)) here
    ∙ ap (λ (k : Key). step (Intact table) (GetAt k)) coded
    ∙ sym (ap (map_ok (λ (k : List Value). (Intact table, Row (find key_cmp (code_of k) table.rows)))) read)
    ∙ ap (λ s. step s (Get fields)) (sym here)

-- trees that were put back beside the heads of the indexes after the call
module _ (schema : Schema) (heads : List IndexHead) (after : Option Trees) (new : Trees) (put : after ≡ Some new) where
  put_is_sound : IsSoundTable (held_by schema new.rows (indexes_of heads new.entries.items)) → length new.entries.items ≡ length heads → length heads ≤ most_indexes → AreSoundParts schema heads after
  put_is_sound sound many few = subst (AreSoundParts schema heads) (sym put) (sound, (many, few))

  state_is_put : (table : PlainTable) → held_by schema new.rows (indexes_of heads new.entries.items) ≡ table → state_of schema heads after ≡ Intact table
  state_is_put table to = ap (state_of schema heads) put ∙ ap Intact to

module _ (schema : Schema) (heads : List IndexHead) (kept : Option Trees) (trees : Trees) (is : kept ≡ Some trees) (sound : AreSoundParts schema heads kept) where
  abbrev indexes : List Index
  indexes = indexes_of heads trees.entries.items

  abbrev before : PlainTable
  before = held_by schema trees.rows indexes

  pub was_sound : IsSoundTable before
  was_sound = (subst (AreSoundParts schema heads) is sound).0

  -- each index has its tree
  pub each_has_tree : length trees.entries.items ≡ length heads
  each_has_tree = (subst (AreSoundParts schema heads) is sound).1.0

  few_indexes : length heads ≤ most_indexes
  few_indexes = (subst (AreSoundParts schema heads) is sound).1.1

  -- ---- messages

  -- a packet is sorted by key and of the schema
  module _ (packet : RowMessages) (sorted : sorted_batch packet ≡ packet) (fit : AreOfSchema schema packet) where
    abbrev sent_by : IndexHead → Messages EntryMessage
    sent_by = packet_for (effects_of packet before.rows)

    rows_stand : AllStand schema (rows_after row_effect packet before.rows)
    rows_stand = rows_after-stand schema packet before.rows fit was_sound.rows

    pub suit : All (λ head. All (SuitsEffect head.def) (effects_of packet before.rows)) heads
    suit =
        subst (λ (p : RowMessages). All (λ head. All (SuitsEffect head.def) (effects_of p before.rows)) heads) sorted
        (indexes_suit schema before.shape before.rows packet (rows_sorted before was_sound) was_sound.rows rows_stand
        heads trees.entries.items each_has_tree was_sound.indexes)

    module _ (packets : List (Messages EntryMessage)) (packets_are : packets ≡ map sent_by heads) (taken : Trees) (took : kept ≡ Some taken) where
      pub each_has_packet : length packets ≡ length taken.entries.items
      each_has_packet = ap length packets_are ∙ length-map heads sent_by ∙ sym (ap (λ (t : Trees). length t.entries.items) (same is took) ∙ each_has_tree)

      module _ (sent : List SentCount) (sent_are : sent ≡ map (count_for (effects_of packet before.rows)) heads) (new : Trees)
          (after : Option Trees) (put : after ≡ Some new) (rows_are : new.rows ≡ (taken.rows.0, sunk row_meaning taken.rows.0 taken.rows.1 packet))
          (entries_are : new.entries.items ≡ sunk_trees taken.entries.items packets) where
        trees_are : new.entries.items ≡ sunk_trees trees.entries.items (map sent_by heads)
        trees_are = entries_are ∙ (λ i. sunk_trees (same is took i).entries.items (packets_are i))

        sunk_rows_are : new.rows ≡ (trees.rows.0, sunk row_meaning trees.rows.0 trees.rows.1 (sorted_batch packet))
        sunk_rows_are =
            rows_are ∙ ap (λ (t : Trees). (t.rows.0, sunk row_meaning t.rows.0 t.rows.1 packet)) (same is took)
            ∙ ap (λ (p : RowMessages). (trees.rows.0, sunk row_meaning trees.rows.0 trees.rows.1 p)) (sym sorted)

        stepped_to : held_by schema new.rows (indexes_of heads new.entries.items) ≡ after_batch before packet
        stepped_to =
            ap (λ t. held_by schema t (indexes_of heads new.entries.items)) sunk_rows_are
            ∙ stepped schema trees.rows.0 trees.rows.1 indexes (indexes_of heads new.entries.items) packet was_sound.tree
            (ap (indexes_of heads) trees_are
            ∙ ap (λ (p : RowMessages). indexes_of heads (sunk_trees trees.entries.items (map (packet_for (effects_of p before.rows)) heads))) (sym sorted)
            ∙ sunk_is schema before.shape before.rows packet (rows_sorted before was_sound) was_sound.rows rows_stand
            heads trees.entries.items was_sound.indexes)

        pub messages_keep_sound : AreSoundParts schema heads after
        messages_keep_sound =
            put_is_sound schema heads after new put (subst IsSoundTable (sym stepped_to) (batch_keeps_sound before packet fit was_sound))
            (ap length trees_are ∙ length-sunk heads trees.entries.items sent_by each_has_tree) few_indexes

        pub messages_are_step : (state : TableState) → state_of schema heads kept ≡ state
            → IsStep state (state_of schema heads after) (ApplyMessages packet) (Batch (length packet) sent)
        messages_are_step state was =
            let counts = sent_are ∙ ap (λ (p : RowMessages). map (count_for (effects_of p before.rows)) heads) (sym sorted)
            ∙ counts_are schema before.shape before.rows packet (rows_sorted before was_sound) was_sound.rows rows_stand heads
            trees.entries.items each_has_tree was_sound.indexes in
            ap (λ s. step s (ApplyMessages packet)) (sym was ∙ ap (state_of schema heads) is)
            ∙ (λ i. Ok (sym (state_is_put schema heads after new put (after_batch before packet) stepped_to) i, Batch (length packet) (sym counts i)))

  -- ---- records that encode messages

  -- a packet is that of a batch that is not refused
  module _ (items : List Item) (packet : RowMessages) (packet_is : packet ≡ sorted_batch (messages_of schema items)) (state : TableState)
      (was : state_of schema heads kept ≡ state) where
    here : state ≡ Intact before
    here = state_as_held schema heads kept trees is state was

    -- so the messages may be applied
    pub packet_suits : SuitMessages state packet
    packet_suits =
        subst (λ s. SuitMessages s packet) (sym here)
        (subst (AreOfSchema schema) (sym packet_is) (sorted_of_schema schema (messages_of schema items) (batch_of_schema schema items)))

    -- to apply the packet is to apply the batch
    pub packet_is_text : lowest (batch_refusals schema items) ≡ None → step state (ApplyMessages packet) ≡ step state (Apply items)
    packet_is_text allowed =
        ap (λ s. step s (ApplyMessages packet)) here
        ∙ ap (λ (p : RowMessages). step (Intact before) (ApplyMessages p)) packet_is
        ∙ ap Ok (after-sorted before was_sound (messages_of schema items) (batch_of_schema schema items))
        ∙ sym (text_is before items allowed)
        ∙ ap (λ s. step s (Apply items)) (sym here)

  module _ (state : TableState) (was : state_of schema heads kept ≡ state) where
    state_is : state ≡ Intact before
    state_is = sym was ∙ ap (state_of schema heads) is

    -- ---- indexes

    -- a name that is free is refused by the number of indexes alone
    pub refused_by_number : (name : List ℕ) → is_primary name ≡ false → is_some (index_named name indexes) ≡ false
        → lowest (index_refusals state name) ≡ lowest (one_if (nat_le most_indexes (length heads)) TooMany)
    refused_by_number name other free =
        ap (λ s. lowest (index_refusals s name)) state_is
        ∙ (λ i. lowest (one_if (other i || free i) NameTaken ++ one_if (nat_le most_indexes (length-indexes_of heads trees.entries.items each_has_tree i)) TooMany))

    module _ (taken : Trees) (took : kept ≡ Some taken) (others : List IndexHead) (new : Trees) (after : Option Trees) (put : after ≡ Some new) (rows_are : new.rows ≡ taken.rows) where
      others_to : (entries : List (Shape × EntryTree)) → new.entries.items ≡ entries
          → held_by schema new.rows (indexes_of others new.entries.items) ≡ held_by schema trees.rows (indexes_of others entries)
      others_to entries are = (λ i. held_by schema (rows_are i) (indexes_of others (are i))) ∙ ap (λ (t : Trees). held_by schema t.rows (indexes_of others entries)) (same is took)

      -- the new index is after the others, or missing if memory ran out
      module _ (name : List ℕ) (def : Definition) where
        abbrev new_tree : Shape × EntryTree
        new_tree = (trees.rows.0, leaf [])

        added_to : others ≡ heads ++ empty_head name def ∷ [] → new.entries.items ≡ taken.entries.items ++ (taken.rows.0, leaf []) ∷ []
            → held_by schema new.rows (indexes_of others new.entries.items) ≡ with_index before name def
        added_to heads_are entries_are =
            others_to (trees.entries.items ++ new_tree ∷ []) (entries_are ∙ ap (λ (t : Trees). t.entries.items ++ (t.rows.0, leaf []) ∷ []) (same is took))
            ∙ ap (λ hs. held_by schema trees.rows (indexes_of hs (trees.entries.items ++ new_tree ∷ []))) heads_are
            ∙ ap (held_by schema trees.rows) (indexes_of-append heads trees.entries.items (empty_head name def) new_tree each_has_tree)

        not_added_to : others ≡ heads → new.entries.items ≡ taken.entries.items → held_by schema new.rows (indexes_of others new.entries.items) ≡ before
        not_added_to heads_are entries_are =
            others_to trees.entries.items (entries_are ∙ ap (λ (t : Trees). t.entries.items) (same is took)) ∙ ap (λ hs. held_by schema trees.rows (indexes_of hs trees.entries.items)) heads_are

        one_more : lowest (index_refusals state name) ≡ None → others ≡ heads ++ empty_head name def ∷ [] → length others ≤ most_indexes
        one_more free heads_are =
            let number : length others ≡ length heads + 1 = ap length heads_are ∙ length_push heads _ in
            let indexes_number = length-indexes_of heads trees.entries.items each_has_tree in
            let fewer = below_most (is_primary name || is_some (index_named name indexes)) (length indexes) (sym (ap (λ s. lowest (index_refusals s name)) state_is) ∙ free) in
            omega arith

        pub added_is_sound : Suits state def → lowest (index_refusals state name) ≡ None → (added : Bool) → others ≡ (if added then heads ++ empty_head name def ∷ [] else heads)
            → new.entries.items ≡ (if added then taken.entries.items ++ (taken.rows.0, leaf []) ∷ [] else taken.entries.items) → AreSoundParts schema others after
        added_is_sound suits free true heads_are entries_are =
            put_is_sound schema others after new put
            (subst IsSoundTable (sym (added_to heads_are entries_are)) (with_index-sound before name def (subst (λ s. Suits s def) state_is suits) was_sound))
            (ap length entries_are ∙ length_push taken.entries.items _ ∙ ap (λ (t : Trees). length t.entries.items + 1) (same is took)
            ∙ ap (λ n. n + 1) each_has_tree ∙ sym (ap length heads_are ∙ length_push heads _))
            (one_more free heads_are)
        added_is_sound suits free false heads_are entries_are =
            put_is_sound schema others after new put (subst IsSoundTable (sym (not_added_to heads_are entries_are)) was_sound)
            (ap length entries_are ∙ ap (λ (t : Trees). length t.entries.items) (same is took) ∙ each_has_tree ∙ sym (ap length heads_are))
            (subst (λ n. n ≤ most_indexes) (sym (ap length heads_are)) few_indexes)

        pub not_added_is : others ≡ heads → new.entries.items ≡ taken.entries.items → state_of schema others after ≡ state
        not_added_is heads_are entries_are = state_is_put schema others after new put before (not_added_to heads_are entries_are) ∙ sym state_is

        pub create_is_step : (own : List ℕ) → own ≡ name → others ≡ heads ++ empty_head name def ∷ [] → new.entries.items ≡ taken.entries.items ++ (taken.rows.0, leaf []) ∷ []
            → lowest (index_refusals state name) ≡ None → IsStep state (state_of schema others after) (CreateIndex name def) (Created own)
        create_is_step own named heads_are entries_are free =
            ap (λ s. step s (CreateIndex name def)) state_is
            ∙ ap (λ o. unless o (Intact (with_index before name def), Created name)) (sym (ap (λ s. lowest (index_refusals s name)) state_is) ∙ free)
            ∙ (λ i. Ok (sym (state_is_put schema others after new put (with_index before name def) (added_to heads_are entries_are)) i, Created (sym named i)))

      module _ (place : ℕ) (heads_are : others ≡ remove heads place) (entries_are : new.entries.items ≡ remove taken.entries.items place) where
        removed : new.entries.items ≡ remove trees.entries.items place
        removed = entries_are ∙ ap (λ (t : Trees). remove t.entries.items place) (same is took)

        removed_to : held_by schema new.rows (indexes_of others new.entries.items) ≡ without_index before place
        removed_to =
            others_to (remove trees.entries.items place) removed ∙ ap (λ hs. held_by schema trees.rows (indexes_of hs (remove trees.entries.items place))) heads_are
            ∙ ap (held_by schema trees.rows) (indexes_of-remove place heads trees.entries.items each_has_tree)

        pub removed_is_sound : AreSoundParts schema others after
        removed_is_sound =
            put_is_sound schema others after new put (subst IsSoundTable (sym removed_to) (without_index-sound before place was_sound))
            (ap length removed ∙ length-remove_same place trees.entries.items heads each_has_tree ∙ sym (ap length heads_are))
            (let fewer = length-remove-le place heads in let few = few_indexes in let number = ap length heads_are in omega arith)

        pub drop_is_step : (name own : List ℕ) (index : Index) → index_named name indexes ≡ Some (place, index) → own ≡ name
            → IsStep state (state_of schema others after) (DropIndex name) (Dropped own)
        drop_is_step name own index found named =
            ap (λ s. step s (DropIndex name)) state_is ∙ ap (dropped before name) found
            ∙ (λ i. Ok (sym (state_is_put schema others after new put (without_index before place) removed_to) i, Dropped (sym named i)))

    -- ---- rows that are loaded

    module _ (text : List ℕ) (rows : List (List Value)) (read : text_rows schema.columns text ≡ Ok rows) (map_is : Rows (List Value)) (mapped : map_of schema.keys rows ≡ Ok map_is) where
      sorted : T (is_sorted key_cmp map_is)
      sorted = map_of-sorted schema.keys rows map_is mapped

      stand : AllStand schema map_is
      stand = map_of-stand schema rows map_is (text_rows-of schema.columns text rows read) mapped

      -- so `pack_entries` may be called with the rows
      pub loaded_suits : All (λ head. SuitsRows head.def map_is) heads
      loaded_suits = each_suits schema before.shape map_is sorted stand before.rows heads trees.entries.items each_has_tree was_sound.indexes

      abbrev new_entries : List (Shape × EntryTree)
      new_entries = map (λ head. entry_tree trees.rows.0 map_is head.def) heads

      module _ (allowed : lowest (load_refusals indexes trees.rows.1) ≡ None) (new : Trees) (after : Option Trees) (put : after ≡ Some new) (rows_are
          : new.rows ≡ (trees.rows.0, packed trees.rows.0 map_is))
          (entries_are : new.entries.items ≡ new_entries) where
        loaded_to : held_by schema new.rows (indexes_of heads new.entries.items) ≡ with_rows before map_is
        loaded_to =
            (λ i. held_by schema (rows_are i) (indexes_of heads (entries_are i)))
            ∙ (λ i. record {
              schema = schema;
              shape = trees.rows.0;
              rows = packed-holds row_meaning.weigh trees.rows.0 was_sound.tree.roomy map_is sorted row_effect i;
              tree = packed trees.rows.0 map_is;
              indexes = with_entry_trees schema before.shape map_is sorted stand before.rows heads trees.entries.items each_has_tree was_sound.indexes i;
            })

        pub loaded_is_sound : AreSoundParts schema heads after
        loaded_is_sound =
            put_is_sound schema heads after new put
            (subst IsSoundTable (sym loaded_to) (with_rows-sound before map_is stand sorted (none_building (list_all is_complete indexes) (is_bare trees.rows.1) allowed) was_sound))
            (ap length entries_are ∙ length-map heads (λ head. entry_tree trees.rows.0 map_is head.def)) few_indexes

        pub load_is_step : (count : ℕ) → count ≡ length map_is → IsStep state (state_of schema heads after) (Load text) (Loaded count)
        load_is_step count count_is =
            ap (λ s. step s (Load text)) state_is
            ∙ ap (λ r. map_ok (after_load before) (and_then (map_of schema.keys) (and_then (unless_any (load_refusals indexes trees.rows.1)) r))) read
            ∙ ap (λ o. map_ok (after_load before) (and_then (map_of schema.keys) (unless o rows))) allowed
            ∙ ap (map_ok (after_load before)) mapped
            ∙ (λ i. Ok (sym (state_is_put schema heads after new put (with_rows before map_is) loaded_to) i, Loaded (sym count_is i)))

    -- ---- trees that are renewed

    module _ (upkeep : Upkeep) (name : List ℕ) where
      renewed_step : step state (upkeep_call upkeep name) ≡ map_ok (λ table. (Intact table, upkeep_reply upkeep name)) (with_renewed upkeep before name)
      renewed_step = ap (λ s. step s (upkeep_call upkeep name)) state_is ∙ upkeep_step upkeep before name

      module _ (taken from new : Trees) (took : kept ≡ Some taken) (whole : kept ≡ Some from) (after : Option Trees) (put : after ≡ Some new)
          (rows_are : new.rows ≡ (from.rows.0, renewed_tree upkeep row_meaning from.rows.0 from.rows.1)) (entries_are : new.entries.items ≡ taken.entries.items) where
        rows_to : held_by schema new.rows (indexes_of heads new.entries.items) ≡ with_renewed_rows upkeep before
        rows_to =
            (λ i. held_by schema (rows_are i) (indexes_of heads (entries_are i)))
            ∙ (λ i. held_by schema ((same is whole i).rows.0, renewed_tree upkeep row_meaning (same is whole i).rows.0 (same is whole i).rows.1) (indexes_of heads (same is took i).entries.items))
            ∙ (λ i. record {
              schema = schema;
              shape = trees.rows.0;
              rows = renewed-holds row_meaning trees.rows.0 trees.rows.1 was_sound.tree upkeep i;
              tree =
                  renewed_tree upkeep row_meaning trees.rows.0 trees.rows.1;
              indexes = indexes;
            })

        pub renewed_rows_is_sound : AreSoundParts schema heads after
        renewed_rows_is_sound =
            put_is_sound schema heads after new put (subst IsSoundTable (sym rows_to) (with_renewed_rows-sound upkeep before was_sound))
            (ap length entries_are ∙ ap (λ (t : Trees). length t.entries.items) (same is took) ∙ each_has_tree) few_indexes

        pub renewed_rows_is_step : (own : List ℕ) → own ≡ name → is_primary name ≡ true → IsStep state (state_of schema heads after) (upkeep_call upkeep name) (upkeep_reply upkeep own)
        renewed_rows_is_step own named primary =
            renewed_step
            ∙ ap (λ b. map_ok (λ table. (Intact table, upkeep_reply upkeep name))
            (if b then Ok (with_renewed_rows upkeep before) else or_refused NoSuchTree
            (option_map (with_renewed_index upkeep before) (index_named name indexes)))) primary
            ∙ (λ i. Ok (sym (state_is_put schema heads after new put (with_renewed_rows upkeep before) rows_to) i, upkeep_reply upkeep (sym named i)))

    -- an index was found by its name
    module _ (name : List ℕ) (place : ℕ) (index : IndexRef) (found : index_named name indexes ≡ Some (place, index_of_ref index)) where
      abbrev shown : Index
      shown = index_of_ref index

      index_found : IsSoundIndex schema before.shape before.rows shown
      index_found = found-sound before name (place, shown) found was_sound

      -- so `build_step` may be called with it
      pub found_within : All (λ row. IsWithin shown.def (length row.1)) before.rows
      found_within = rows_within schema before.shape before.rows (rows_sorted before was_sound) was_sound.rows shown index_found.suits index_found.keys

      step_change : (n : ℕ) (packet : Messages EntryMessage) (cover : Cover) → packet ≡ building_packet n before.rows shown
          → cover ≡ cover_after n shown.cover before.rows → index_with (with_cover index.head.now cover) (sunk_tree index.tree.now packet) ≡ built_index n before.rows shown
      step_change n packet cover packet_is cover_is = λ i. advanced shown (packet_is i) (cover_is i)

      -- the index is changed in its place
      module _ (taken new : Trees) (took : kept ≡ Some taken) (after : Option Trees) (put : after ≡ Some new) (rows_are : new.rows ≡ taken.rows) (others
          : List IndexHead) (head : IndexHead) (tree : Shape × EntryTree)
          (heads_are : others ≡ set heads place head) (entries_are : new.entries.items ≡ set taken.entries.items place tree) where
        tree_put : new.entries.items ≡ set trees.entries.items place tree
        tree_put = entries_are ∙ ap (λ (t : Trees). set t.entries.items place tree) (same is took)

        index_to : held_by schema new.rows (indexes_of others new.entries.items) ≡ with_index_at before place (index_with head tree)
        index_to =
            (λ i. held_by schema (rows_are i) (indexes_of (heads_are i) (tree_put i)))
            ∙ ap (λ (t : Trees). held_by schema t.rows (indexes_of (set heads place head) (set trees.entries.items place tree))) (same is took)
            ∙ ap (held_by schema trees.rows) (indexes_of-set place heads trees.entries.items head tree)

        one_each : length new.entries.items ≡ length others
        one_each = ap length tree_put ∙ length-set trees.entries.items place tree ∙ each_has_tree ∙ sym (ap length heads_are ∙ length-set heads place head)

        few_still : length others ≤ most_indexes
        few_still = subst (λ n. n ≤ most_indexes) (sym (ap length heads_are ∙ length-set heads place head)) few_indexes

        module _ (upkeep : Upkeep) (change_is : index_with head tree ≡ renewed_index upkeep shown) where
          renewed_to : held_by schema new.rows (indexes_of others new.entries.items) ≡ with_renewed_index upkeep before (place, shown)
          renewed_to = index_to ∙ ap (with_index_at before place) change_is

          pub renewed_index_is_sound : AreSoundParts schema others after
          renewed_index_is_sound = put_is_sound schema others after new put
              (subst IsSoundTable (sym renewed_to) (with_renewed_index-sound before name (place, shown) found was_sound upkeep)) one_each few_still

          pub renewed_index_is_step : (own : List ℕ) → own ≡ name → is_primary name ≡ false → IsStep state (state_of schema others after) (upkeep_call upkeep name) (upkeep_reply upkeep own)
          renewed_index_is_step own named other =
              renewed_step upkeep name
              ∙ ap (λ b. map_ok (λ table. (Intact table, upkeep_reply upkeep name))
              (if b then Ok (with_renewed_rows upkeep before) else or_refused NoSuchTree
              (option_map (with_renewed_index upkeep before) (index_named name indexes)))) other
              ∙ ap (λ f. map_ok (λ table. (Intact table, upkeep_reply upkeep name)) (or_refused NoSuchTree (option_map (with_renewed_index upkeep before) f))) found
              ∙ (λ i. Ok (sym (state_is_put schema others after new put (with_renewed_index upkeep before (place, shown)) renewed_to) i, upkeep_reply upkeep (sym named i)))

        -- a step of its building
        module _ (n : ℕ) (change_is : index_with head tree ≡ built_index n before.rows shown) where
          built_to : held_by schema new.rows (indexes_of others new.entries.items) ≡ with_index_at before place (built_index n before.rows shown)
          built_to = index_to ∙ ap (with_index_at before place) change_is

          built_index_is_sound : AreSoundParts schema others after
          built_index_is_sound = put_is_sound schema others after new put (subst IsSoundTable (sym built_to) (with_built_index-sound before name (place, shown) found was_sound n)) one_each few_still

          build_is_step : (own : List ℕ) (read : ℕ) (complete : Bool) → own ≡ name → read ≡ length (next_rows n shown.cover before.rows) → complete ≡ is_complete (built_index n before.rows shown)
              → is_complete shown ≡ false → IsStep state (state_of schema others after) (BuildStep name n) (Built own read complete)
          build_is_step own read complete named read_is complete_is building =
              ap (λ s. step s (BuildStep name n)) state_is ∙ ap (built before name n) found ∙ ap (λ b. if b then Err AlreadyComplete else Ok (after_build before name n (place, shown))) building
              ∙ (λ i. Ok (
                sym (state_is_put schema others after new put (with_index_at before place (built_index n before.rows shown)) built_to) i,
                Built
                    (sym named i) (sym read_is i) (sym complete_is i),
              ))

      -- its tree is taken out of its place, and another one is put there
      module _ (taken new : Trees) (took : kept ≡ Some taken) (after : Option Trees) (put : after ≡ Some new) (rows_are : new.rows ≡ taken.rows) (head_there
          : slice_get heads place ≡ Some index.head.now)
          (tree_there : slice_get trees.entries.items place ≡ Some index.tree.now) (out : Shape
          × EntryTree) (is_out : slice_get taken.entries.items place ≡ Some out) (hole : Shape × EntryTree) (others : List (Shape × EntryTree))
          (others_are : others ≡ set taken.entries.items place hole) (tree : Shape × EntryTree) (entries_are : new.entries.items ≡ set others place tree) where
        out_is : out ≡ index.tree.now
        out_is = same tree_there (subst (λ (t : Trees). slice_get t.entries.items place ≡ Some out) (same is took) is_out)

        back : new.entries.items ≡ set taken.entries.items place tree
        back = put_again place taken.entries.items others new.entries.items hole tree others_are entries_are

        module _ (tree_is : tree ≡ (out.0, renewed_tree Draining entry_meaning out.0 out.1)) where
          drained_is : index_with index.head.now tree ≡ renewed_index Draining shown
          drained_is = ap (index_with index.head.now) tree_is ∙ ap (λ t. renewed_index Draining (index_with index.head.now t)) out_is

          heads_stay : heads ≡ set heads place index.head.now
          heads_stay = sym (set_same place heads index.head.now head_there)

          pub drained_index_is_sound : AreSoundParts schema heads after
          drained_index_is_sound = renewed_index_is_sound taken new took after put rows_are heads index.head.now tree heads_stay back Draining drained_is

          pub drained_index_is_step : (own : List ℕ) → own ≡ name → is_primary name ≡ false → IsStep state (state_of schema heads after) (Drain name) (Drained own)
          drained_index_is_step = renewed_index_is_step taken new took after put rows_are heads index.head.now tree heads_stay back Draining drained_is

        module _ (n : ℕ) (packet : Messages EntryMessage) (cover : Cover) (packet_is
            : packet ≡ building_packet n before.rows shown) (cover_is : cover ≡ cover_after n shown.cover before.rows)
            (newer : List IndexHead) (newer_are : IfSome (slice_get heads place) (λ head. newer ≡ set heads place (with_cover head cover))) (tree_is : tree ≡ sunk_tree out packet) where
          newer_is : newer ≡ set heads place (with_cover index.head.now cover)
          newer_is = subst (λ o. IfSome o (λ head. newer ≡ set heads place (with_cover head cover))) head_there newer_are

          built_is : index_with (with_cover index.head.now cover) tree ≡ built_index n before.rows shown
          built_is = ap (index_with (with_cover index.head.now cover)) (tree_is ∙ ap (λ t. sunk_tree t packet) out_is) ∙ step_change n packet cover packet_is cover_is

          pub advanced_index_is_sound : AreSoundParts schema newer after
          advanced_index_is_sound = built_index_is_sound taken new took after put rows_are newer (with_cover index.head.now cover) tree newer_is back n built_is

          pub advance_is_step : (own : List ℕ) (read : ℕ) (complete : Bool) → own ≡ name → read ≡ length (next_rows n shown.cover before.rows)
              → complete ≡ is_complete (built_index n before.rows shown)
              → is_complete shown ≡ false → IsStep state (state_of schema newer after) (BuildStep name n) (Built own read complete)
          advance_is_step = build_is_step taken new took after put rows_are newer (with_cover index.head.now cover) tree newer_is back n built_is

    -- ---- what is shown

    pub shows_rows : (name : List ℕ) → is_primary name ≡ true → (tree_named state name ≡ Ok (Primary before)) × ShowsRows before schema trees.rows
    shows_rows name primary = (
      ap (λ s. tree_named s name) state_is ∙ ap (λ b. if b then Ok (Primary before) else secondary before (index_named name indexes)) primary,
      record { schema_is = refl; tree_is = refl; held = refl; stand = was_sound.rows; order = keys_rise schema before.rows was_sound.rows (rows_sorted before was_sound) },
    )

    pub shows_index : (name : List ℕ) (place : ℕ) (index : Index) → is_primary name ≡ false → index_named name indexes ≡ Some (place, index) →
        (tree_named state name ≡ Ok (Secondary before index)) × ShowsIndex before schema index
    shows_index name place index other found =
        let sound = found-sound before name (place, index) found was_sound in (
          ap (λ s. tree_named s name) state_is ∙ ap (λ b. if b then Ok (Primary before) else secondary before (index_named name indexes)) other ∙ ap (secondary before) found,
          record {
            schema_is = refl;
            held = sound.held;
            complete = holds_selection schema before.shape before.rows index sound;
            suits = sound.suits;
            keys = sound.keys;
            few = was_sound.keys;
            stand = was_sound.rows;
          },
        )
