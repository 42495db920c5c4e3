-- The indexes of a table: how they are found, what a batch or a step of building sends them, and what they are after it and after a load.
use Rattle.std.specs.Prelude.{ℕ, suc, ◌==◌, Bool, List, [], ◌∷◌, length, map, Option, Some, None, if◌then◌else◌}
use Rattle.std.specs.Cmp.Lexicographic.{pointwise}
use Rattle.bt_value.specs.declared.value.Value.{Value}
use Rattle.bt_message.specs.Effects.{Rows}
use Rattle.bt_message.specs.Messages.{Messages, sorted_batch}
use Rattle.bt_flush.specs.Drains.{packed}
use Rattle.bt_form.specs.Flushes.{sunk}
use Rattle.bt_form.specs.Trees.{Shape, Tree, leaf}
use Rattle.bt_fanout.specs.Covers.{cover_after, is_covered, is_whole, next_rows, puts_of}
use Rattle.bt_fanout.specs.Effects.{EntryMessage, RowMessage, entry_meaning, row_effect}
use Rattle.bt_fanout.specs.Entries.{Definition, entry_of, same_values}
use Rattle.bt_fanout.specs.Selections.{index_messages, select}
use Rattle.bt_fanout.specs.declared.cover.Cover.{Cover}
use Rattle.bt_fanout.specs.declared.cover.Cover.TheVariants.{Nothing}
use Rattle.bt_table.specs.declared.index.IndexHead.{IndexHead}
use Rattle.bt_table.specs.declared.index.IndexRef.{IndexRef}
use Rattle.bt_table.specs.declared.index.IndexRefs.{IndexRefs}
use Rattle.bt_table.specs.declared.reply.SentCount.{SentCount}

-- a tree of the entries of an index
abbrev pub EntryTree : Type 0
EntryTree = Tree (List Value) EntryMessage

-- an index: its name, its definition, which rows it covers, and the tree of its entries with its shape
pub record Index : Type 0 where
  pub name : List ℕ
  pub def : Definition
  pub cover : Cover
  pub tree : Shape × EntryTree

-- an index of this head, with its tree
abbrev pub index_with : IndexHead → Shape × EntryTree → Index
index_with head tree = record { name = head.name; def = head.def; cover = head.cover; tree = tree }

-- indexes of these heads, each with the tree at its place
abbrev pub indexes_of : List IndexHead → List (Shape × EntryTree) → List Index
indexes_of [] trees = []
indexes_of (head ∷ heads) [] = []
indexes_of (head ∷ heads) (tree ∷ trees) = index_with head tree ∷ indexes_of heads trees

-- a borrowed index
abbrev pub index_of_ref : IndexRef → Index
index_of_ref index = index_with index.head.now index.tree.now

-- borrowed indexes
abbrev pub indexes_of_refs : IndexRefs → List Index
indexes_of_refs refs = indexes_of refs.heads.now refs.trees.now

-- ---- names

abbrev pub is_name_of : List ℕ → Index → Bool
is_name_of name index = pointwise ◌==◌ index.name name

-- the first index of this name, and its place, counted from a given one
abbrev pub index_named_from : ℕ → List ℕ → List Index → Option (ℕ × Index)
index_named_from place name [] = None
index_named_from place name (index ∷ indexes) = if is_name_of name index then Some (place, index) else index_named_from (suc place) name indexes

abbrev pub index_named : List ℕ → List Index → Option (ℕ × Index)
index_named = index_named_from 0

-- ---- a new index

-- it covers no row, and its tree is one leaf
abbrev pub empty_index : Shape → List ℕ → Definition → Index
empty_index shape name def = record { name = name; def = def; cover = Nothing; tree = (shape, leaf []) }

-- whether it is complete: it covers each row
abbrev pub is_complete : Index → Bool
is_complete index = is_whole index.cover

-- it has another tree
abbrev pub with_tree : Index → Shape × EntryTree → Index
with_tree index tree = record index { tree = tree }

-- ---- batches

-- the packet that a batch on rows means for an index
abbrev pub packet_of : Rows (List Value) → Messages RowMessage → Index → Messages EntryMessage
packet_of rows batch index = sorted_batch (index_messages (entry_of index.def) same_values row_effect (is_covered index.cover) batch rows)

-- how many messages an index is sent
abbrev pub sent_count : Index → Messages EntryMessage → SentCount
sent_count index packet = record { name = index.name; count = length packet }

-- an index after a packet
abbrev pub sunk_index : Index → Messages EntryMessage → Index
sunk_index index packet = record index { tree = (index.tree.0, sunk entry_meaning index.tree.0 index.tree.1 packet) }

-- indexes after a batch on rows
abbrev pub indexes_after : Rows (List Value) → Messages RowMessage → List Index → List Index
indexes_after rows batch indexes = map (λ index. sunk_index index (packet_of rows batch index)) indexes

-- ---- building

-- the packet of a step of building for an index: the entries of the rows that it reads, the first n that the index doesn't cover, as puts
abbrev pub building_packet : ℕ → Rows (List Value) → Index → Messages EntryMessage
building_packet n rows index = sorted_batch (puts_of (entry_of index.def) (next_rows n index.cover rows))

-- an index after a packet of its building; it covers more rows then
abbrev pub advanced : Index → Messages EntryMessage → Cover → Index
advanced index packet cover = record (sunk_index index packet) { cover = cover }

-- an index after a step of building that is to read n rows
abbrev pub built_index : ℕ → Rows (List Value) → Index → Index
built_index n rows index = advanced index (building_packet n rows index) (cover_after n index.cover rows)

-- ---- loads

-- an index of all these rows: its tree is packed from the entries that its definition selects of them
abbrev pub packed_index : Rows (List Value) → Index → Index
packed_index rows index = with_tree index (index.tree.0, packed index.tree.0 (select (entry_of index.def) rows))
