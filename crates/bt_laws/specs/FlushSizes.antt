-- How much a flush moves down, and how many flushes packets lead to.
use Rattle.std.specs.Prelude.{ℕ, zero, suc, ◌+◌, ◌*◌, ◌-◌, ◌<◌, ◌≤◌, List, [], ◌∷◌, length, map}
use Rattle.std.specs.List.{AllByRecursion}
use Rattle.bt_form.specs.Flushes.{Child, Flush, flush_at, flushed, loads, pending_load, shared, sunk}
use Rattle.bt_form.specs.Loops.{opened_items}
use Rattle.bt_form.specs.Messages.{Meaning, Messages, load, with_messages}
use Rattle.bt_form.specs.Plans.{total}
use Rattle.bt_form.specs.Trees.{Nodes, Shape, Tree, children, height, height_below, inner, leaf, node, none}
use Rattle.bt_form.specs.declared.mode.Mode.TheVariants.{Absorb}

module _ {V M : Type 0} (meaning : Meaning V M) (shape : Shape) where
  -- ---- one node

  -- the children that are flushed, one after the other: the fullest, as long as more is pending than the buffer can hold
  abbrev pub flushed_children : Flush V M → List (Child V M) → List (Child V M)
  flushed_children flush cs =
      opened_items (pending_load meaning.weigh shape) (flushed flush) shape.buffer (total (loads meaning.weigh shape cs)) cs

  -- Each flush moves down more than the capacity of the buffer divided by the number of children.
  abbrev pub FlushesAreLarge : Flush V M → List (Child V M) → Type 0
  FlushesAreLarge flush cs =
      AllByRecursion (λ c. shape.buffer < length cs * pending_load meaning.weigh shape c) (flushed_children flush cs)

  -- ---- a tree, and packets that come into it one after the other

  -- how many children are flushed in a node and below it when a packet comes, with a bound on the height of the node
  abbrev pub flush_count_at : ℕ → Tree V M → Messages M → ℕ
  flush_count_at high (leaf rows) packet = 0
  flush_count_at zero (inner ns buffer) packet = 0
  flush_count_at (suc high) (inner ns buffer) packet =
      total (map (λ c. suc (flush_count_at high c.tree c.pending))
      (flushed_children (flush_at meaning Absorb high shape) (shared (children ns) (with_messages packet buffer))))

  -- how many children are flushed when a packet comes into a tree
  abbrev pub flush_count : Tree V M → Messages M → ℕ
  flush_count t packet = flush_count_at (height t) t packet

  -- the tree after all packets
  abbrev pub sunk_all : Tree V M → List (Messages M) → Tree V M
  sunk_all t [] = t
  sunk_all t (packet ∷ packets) = sunk_all (sunk meaning shape t packet) packets

  -- how many children are flushed for all packets
  abbrev pub flush_counts : Tree V M → List (Messages M) → ℕ
  flush_counts t [] = 0
  flush_counts t (packet ∷ packets) = flush_count t packet + flush_counts (sunk meaning shape t packet) packets

  -- the load of the messages of all packets
  abbrev pub arrived : List (Messages M) → ℕ
  arrived packets = total (map (load meaning.weigh shape.measure) packets)

  -- the load of each packet times the levels below the root of the tree that it comes into, summed over all packets
  abbrev pub levels_ahead : Tree V M → List (Messages M) → ℕ
  levels_ahead t [] = 0
  levels_ahead t (packet ∷ packets) =
      load meaning.weigh shape.measure packet * (height t - 1) + levels_ahead (sunk meaning shape t packet) packets

  -- the load of the messages that are pending at first, each times the levels below its node: 0, if none are
  abbrev mutual
    pub levels_pending : Tree V M → ℕ
    levels_pending (leaf rows) = 0
    levels_pending (inner ns buffer) = load meaning.weigh shape.measure buffer * height_below ns + levels_pending_below ns

    pub levels_pending_below : Nodes V M → ℕ
    levels_pending_below none = 0
    levels_pending_below (node k t ns) = levels_pending t + levels_pending_below ns

  -- The number of flushes times (buffer + 1) is at most the fanout times the levels that the messages have below them, each weighted with its load.
  abbrev pub FlushesAreFew : Tree V M → List (Messages M) → Type 0
  FlushesAreFew t packets =
      flush_counts t packets * suc shape.buffer ≤ shape.fanout * (levels_pending t + levels_ahead t packets)

  -- So it is at most the fanout times this sum: the levels of the messages that are pending at first, and the load of all that came times the levels of the
  -- last tree below its root.
  abbrev pub FlushesAreFewInAll : Tree V M → List (Messages M) → Type 0
  FlushesAreFewInAll t packets =
      flush_counts t packets * suc shape.buffer ≤ shape.fanout * (levels_pending t + arrived packets * (height (sunk_all t packets) - 1))
