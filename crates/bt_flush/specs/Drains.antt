-- Trees without pending messages, and trees built from rows alone.
use Rattle.std.specs.Prelude.{◌≡◌, []}
use Rattle.std.specs.declared.option.Option.{Option}
use Rattle.bt_form.specs.Messages.{Rows, Meaning}
use Rattle.bt_form.specs.Trees.{Shape, Tree, leaf, inner, Nodes, none, node}
use Rattle.bt_form.specs.Flushes.{Flush, crown, flush_in, holds, leaves}
use Rattle.bt_form.specs.declared.mode.Mode.TheVariants.{Drain}

-- a tree of these rows without messages: leaves are dealt, under one node
abbrev pub packed : {V M : Type 0} → Shape → Rows V → Tree V M
packed shape rows = crown shape (leaves shape rows)

module _ {V M : Type 0} (meaning : Meaning V M) where
  -- a node after a packet, when every message goes down to the leaves: each child is flushed with its pending messages, even if there are none
  abbrev pub drain : Shape → Flush V M
  drain = flush_in meaning Drain

  -- a tree with every buffer flushed empty
  abbrev pub drained : Shape → Tree V M → Tree V M
  drained shape t = crown shape (drain shape t [])

-- a tree packed from the rows that a tree holds
abbrev pub rebuilt : {V M : Type 0} → (Option V → M → Option V) → Shape → Tree V M → Tree V M
rebuilt effect shape t = packed shape (holds effect t)

-- no messages are pending in a node or below it
abbrev mutual
  pub IsDry : {V M : Type 0} → Tree V M → Type 0
  IsDry (leaf rows) = Unit {0}
  IsDry (inner ns buffer) = (buffer ≡ []) × AreDry ns

  pub AreDry : {V M : Type 0} → Nodes V M → Type 0
  AreDry none = Unit {0}
  AreDry (node k t ns) = IsDry t × AreDry ns
