-- The heads of the indexes of a table, and the trees of their entries after a batch and after a load: with the packets that effects on rows mean, and packed
-- from the entries of all rows.
use Rattle.std.specs.Prelude.{ℕ, Bool, List, [], ◌∷◌, length}
use Rattle.bt_value.specs.declared.value.Value.{Value}
use Rattle.bt_message.specs.Effects.{Rows}
use Rattle.bt_message.specs.Messages.{Messages, sorted_batch}
use Rattle.bt_flush.specs.Drains.{packed}
use Rattle.bt_form.specs.Flushes.{sunk}
use Rattle.bt_form.specs.Trees.{Shape}
use Rattle.bt_fanout.specs.Covers.{is_whole, wider}
use Rattle.bt_fanout.specs.Effects.{EntryMessage, entry_meaning, sent_for_all}
use Rattle.bt_fanout.specs.Entries.{Definition, entry_of}
use Rattle.bt_fanout.specs.Selections.{select}
use Rattle.bt_fanout.specs.declared.cover.Cover.{Cover}
use Rattle.bt_fanout.specs.declared.cover.Cover.TheVariants.{Nothing}
use Rattle.bt_fanout.specs.declared.effect.Effect.{Effect}
use Rattle.bt_fanout.specs.declared.joint_packets.IndexTarget.{IndexTarget}
use Rattle.bt_table.specs.Indexes.{EntryTree}
use Rattle.bt_table.specs.declared.index.IndexHead.{IndexHead}
use Rattle.bt_table.specs.declared.reply.SentCount.{SentCount}

-- ---- covers

-- an index that covers no row
abbrev pub empty_head : List ℕ → Definition → IndexHead
empty_head name def = record { name = name; def = def; cover = Nothing }

-- an index that covers other rows
abbrev pub with_cover : IndexHead → Cover → IndexHead
with_cover head cover = record head { cover = cover }

-- the widest of a cover and those of indexes
abbrev pub widest : Cover → List IndexHead → Cover
widest cover [] = cover
widest cover (head ∷ heads) = widest (wider cover head.cover) heads

-- whether it covers each row
abbrev pub covers_all : IndexHead → Bool
covers_all head = is_whole head.cover

-- ---- trees

-- the definition and the cover of an index, by which a batch is sent to it
abbrev pub of_head : IndexHead → Definition × Cover
of_head head = (head.def, head.cover)

abbrev pub of_target : IndexTarget → Definition × Cover
of_target target = (target.def.now, target.cover.now)

-- the packet that effects on rows mean for an index, and how many messages it is sent
abbrev pub packet_for : List Effect → IndexHead → Messages EntryMessage
packet_for effects head = sorted_batch (sent_for_all head.def head.cover effects)

abbrev pub count_for : List Effect → IndexHead → SentCount
count_for effects head = record { name = head.name; count = length (packet_for effects head) }

-- a tree of entries after a packet
abbrev pub sunk_tree : Shape × EntryTree → Messages EntryMessage → Shape × EntryTree
sunk_tree tree packet = (tree.0, sunk entry_meaning tree.0 tree.1 packet)

-- trees, each after its packet
abbrev pub sunk_trees : List (Shape × EntryTree) → List (Messages EntryMessage) → List (Shape × EntryTree)
sunk_trees [] packets = []
sunk_trees (tree ∷ trees) [] = []
sunk_trees (tree ∷ trees) (packet ∷ packets) = sunk_tree tree packet ∷ sunk_trees trees packets

-- the packed tree of the entries of rows for an index of a definition
abbrev pub entry_tree : Shape → Rows (List Value) → Definition → Shape × EntryTree
entry_tree shape rows def = (shape, packed shape (select (entry_of def) rows))
