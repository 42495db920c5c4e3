-- How many levels a tree has, by the number of its leaves.
use Rattle.std.specs.Prelude.{ℕ, ◌+◌, ◌-◌, ◌^◌, ◌≤◌, ◌<◌}
use Rattle.bt_form.specs.Trees.{Nodes, Tree, height, inner, leaf, node, none}

-- the number of leaves of a tree
abbrev mutual
  pub leaf_count : {V M : Type 0} → Tree V M → ℕ
  leaf_count (leaf rows) = 1
  leaf_count (inner ns buffer) = leaves_below ns

  pub leaves_below : {V M : Type 0} → Nodes V M → ℕ
  leaves_below none = 0
  leaves_below (node k t ns) = leaf_count t + leaves_below ns

-- A tree of n levels has at least 2 ^ (n - 1) leaves.
abbrev pub HasManyLeaves : {V M : Type 0} → Tree V M → Type 0
HasManyLeaves t = 2 ^ (height t - 1) ≤ leaf_count t

-- So a tree with fewer than 2 ^ n leaves has at most n levels.
abbrev pub HasFewLevels : {V M : Type 0} → Tree V M → Type 0
HasFewLevels t = (n : ℕ) → leaf_count t < 2 ^ n → height t ≤ n
