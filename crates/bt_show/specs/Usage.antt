-- How much a tree of nodes holds.
use Rattle.std.specs.Prelude.{ℕ, ◌+◌, ◌-◌, ◌^◌, length, min}
use Rattle.bt_form.specs.Trees.{Tree, leaf, inner, Nodes, none, node, height}
use Rattle.bt_show.specs.declared.tree_usage.TreeUsage.{TreeUsage}

-- the number of rows in the leaves of a tree
abbrev mutual
  pub leaf_rows : {V M : Type 0} → Tree V M → ℕ
  leaf_rows (leaf rows) = length rows
  leaf_rows (inner ns buffer) = leaf_rows_below ns

  pub leaf_rows_below : {V M : Type 0} → Nodes V M → ℕ
  leaf_rows_below none = 0
  leaf_rows_below (node pivot tree ns) = leaf_rows tree + leaf_rows_below ns

-- the number of messages in the buffers of a tree
abbrev mutual
  pub pending : {V M : Type 0} → Tree V M → ℕ
  pending (leaf rows) = 0
  pending (inner ns buffer) = length buffer + pending_below ns

  pub pending_below : {V M : Type 0} → Nodes V M → ℕ
  pending_below none = 0
  pending_below (node pivot tree ns) = pending tree + pending_below ns

-- a count, which is at most the largest number of 64 bits
abbrev pub counted : ℕ → ℕ
counted n = min n (2 ^ 64 - 1)

-- how much a tree holds
abbrev pub usage_of : {V M : Type 0} → Tree V M → TreeUsage
usage_of tree = record { rows = counted (leaf_rows tree); messages = counted (pending tree); height = counted (height tree) }
