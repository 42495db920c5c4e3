-- How a packet of messages goes down a tree.
use Rattle.std.specs.Prelude.{ℕ, zero, suc, List, [], ◌∷◌, ◌++◌, map, length}
use Rattle.std.specs.List.{flat_map}
use Rattle.std.specs.declared.option.Option.{Option}
use Rattle.bt_keycode.specs.Keys.{Key}
use Rattle.bt_form.specs.Messages.{Rows, Meaning, Messages, load, rows_after, with_messages, before, from}
use Rattle.bt_form.specs.Deals.{deal}
use Rattle.bt_form.specs.Plans.{total, fullest}
use Rattle.bt_form.specs.Loops.{after_turns, opened_at}
use Rattle.bt_form.specs.declared.mode.Mode.{Mode}
use Rattle.bt_form.specs.declared.mode.Mode.TheVariants.{Absorb, Drain}
use Rattle.bt_form.specs.Trees.{Shape, Tree, leaf, inner, Nodes, none, node, Siblings, children, nodes, height}

-- a child with its pending messages in the buffer of its parent
pub record Child (V M : Type 0) : Type 0 where
  pub pivot : Key
  pub tree : Tree V M
  pub pending : Messages M

-- a flush: the siblings that replace a node when it takes a packet
abbrev pub Flush : Type 0 → Type 0 → Type 0
Flush V M = Tree V M → Messages M → Siblings V M

-- items with their keys, the first of them with this key
abbrev pub pivot_first : {X : Type 0} → Key → List (Key × X) → List (Key × X)
pivot_first k [] = []
pivot_first k (x ∷ xs) = (k, x.1) ∷ xs

-- the key of the first item
abbrev pub first_key : {X : Type 0} → (X → Key) → List X → Key
first_key key [] = []
first_key key (x ∷ xs) = key x

module _ {V M : Type 0} where
  -- Each child with its share of the buffer: a message is pending for the child after the last pivot that is at most its key, or for the first child.
  abbrev pub shared : Siblings V M → Messages M → List (Child V M)
  shared [] buffer = []
  shared (x ∷ []) buffer = record { pivot = x.0; tree = x.1; pending = buffer } ∷ []
  shared (x ∷ y ∷ ys) buffer = record { pivot = x.0; tree = x.1; pending = before y.0 buffer } ∷ shared (y ∷ ys) (from y.0 buffer)

  -- siblings as children without pending messages
  abbrev pub none_pending : Siblings V M → List (Child V M)
  none_pending = map (λ x. record { pivot = x.0; tree = x.1; pending = [] })

  -- the nodes that replace a child when its pending messages go down, the first with its pivot; none of them has pending messages
  abbrev pub flushed : Flush V M → Child V M → List (Child V M)
  flushed flush c = none_pending (pivot_first c.pivot (flush c.tree c.pending))

  -- neighbouring children under one inner node, with their pending messages in its buffer and the pivot of the first
  abbrev pub gathered : List (Child V M) → Key × Tree V M
  gathered cs =
      (first_key (λ c. c.pivot) cs, inner (nodes (pivot_first [] (map (λ c. (c.pivot, c.tree)) cs))) (flat_map (λ c. c.pending) cs))

  -- the children dealt by the fanout, each part under an inner node
  abbrev pub grouped : Shape → List (Child V M) → Siblings V M
  grouped shape cs = pivot_first [] (map gathered (deal shape.fanout cs))

  -- the rows dealt by the size of a leaf, each part with its smallest key
  abbrev pub leaves : Shape → Rows V → Siblings V M
  leaves shape rows = pivot_first [] (map (λ part. (first_key (λ r. r.0) part, leaf part)) (deal shape.leaf rows))

  -- The crown of siblings, with a bound on the levels that are put above them. With the bound of `crown` no sibling is dropped: clause `stands` of the call
  -- `crown`.
  abbrev pub crown_within : ℕ → Shape → Siblings V M → Tree V M
  crown_within levels shape [] = leaf []
  crown_within levels shape (x ∷ []) = x.1
  crown_within zero shape (x ∷ y ∷ xs) = x.1
  crown_within (suc levels) shape (x ∷ y ∷ xs) = crown_within levels shape (grouped shape (none_pending (x ∷ y ∷ xs)))

  -- The crown of one node is the node. Several nodes are dealt by the fanout under inner nodes with empty buffers, level by level, until one is left.
  abbrev pub crown : Shape → Siblings V M → Tree V M
  crown shape xs = crown_within (length xs) shape xs

module _ {V M : Type 0} (weigh : Key × M → ℕ) (shape : Shape) where
  -- the load of the pending messages of a child
  abbrev pub pending_load : Child V M → ℕ
  pending_load c = load weigh shape.measure c.pending

  -- the loads of the children
  abbrev pub loads : List (Child V M) → List ℕ
  loads = map pending_load

  -- While more is pending than the buffer has room for, the fullest child is flushed, and the choice is made again. Each step sends at least one message
  -- down, so there are at most as many steps as the total load.
  abbrev pub flushed_over : Flush V M → List (Child V M) → List (Child V M)
  flushed_over flush cs = after_turns pending_load (flushed flush) shape.buffer (total (loads cs)) cs

  -- The children after a flush in a mode: they are flushed one by one until the buffer has room for all that is pending, or each of them is, even without
  -- pending messages.
  abbrev pub flushed_in : Mode → Flush V M → List (Child V M) → List (Child V M)
  flushed_in Absorb flush cs = flushed_over flush cs
  flushed_in Drain flush cs = flat_map (flushed flush) cs

  -- the children after a flush of the fullest
  abbrev pub fullest_flushed : Flush V M → List (Child V M) → List (Child V M)
  fullest_flushed flush cs = opened_at pending_load (flushed flush) (fullest (loads cs)) cs

module _ {V M : Type 0} (meaning : Meaning V M) where
  -- A node after a packet in a mode, with a bound on the height of the node. With the bound of `flush_in` no packet is dropped: clauses `one_rule` of the
  -- calls `absorb_alone` and `drain_alone`.
  abbrev pub flush_at : Mode → ℕ → Shape → Flush V M
  flush_at mode height shape (leaf rows) packet = leaves shape (rows_after meaning.effect packet rows)
  flush_at mode zero shape (inner ns buffer) packet = ([], inner ns buffer) ∷ []
  flush_at mode (suc height) shape (inner ns buffer) packet =
      grouped shape (flushed_in meaning.weigh shape mode (flush_at mode height shape) (shared (children ns) (with_messages packet buffer)))

  -- A leaf applies the messages to its rows and deals these into leaves. An inner node takes the packet into its buffer, pending messages go down to its
  -- children by the mode, and the children are dealt, each part with its share of the buffer.
  abbrev pub flush_in : Mode → Shape → Flush V M
  flush_in mode shape t packet = flush_at mode (height t) shape t packet

  -- a node after a packet, if it keeps as much as its buffer has room for: the fullest child is flushed while the buffer is over capacity
  abbrev pub absorb : Shape → Flush V M
  absorb = flush_in Absorb

  -- a tree after a packet
  abbrev pub sunk : Shape → Tree V M → Messages M → Tree V M
  sunk shape t packet = crown shape (absorb shape t packet)

module _ {V M : Type 0} (effect : Option V → M → Option V) where
  -- the rows of a tree when all its messages have had their effect: those of a node act after those below it
  abbrev mutual
    pub holds : Tree V M → Rows V
    holds (leaf rows) = rows
    holds (inner ns buffer) = rows_after effect buffer (nodes_hold ns)

    pub nodes_hold : Nodes V M → Rows V
    nodes_hold none = []
    nodes_hold (node k t ns) = holds t ++ nodes_hold ns

  -- the rows of siblings
  abbrev pub all_hold : Siblings V M → Rows V
  all_hold = flat_map (λ x. holds x.1)
