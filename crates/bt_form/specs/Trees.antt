-- Bε-trees: rows in the leaves, pivots, children and a buffer of messages in the inner nodes.
use Rattle.std.specs.Prelude.{ℕ, suc, max, List, [], ◌∷◌, drop, map}
use Rattle.std.specs.List.{zip}
use Rattle.bt_keycode.specs.Keys.{Key}
use Rattle.bt_form.specs.Messages.{Rows, Measure, Messages}

-- the sizes of nodes: the children of an inner node, the capacity and measure of its buffer, the rows of a leaf
pub record Shape : Type 0 where
  pub fanout : ℕ
  pub buffer : ℕ
  pub leaf : ℕ
  pub measure : Measure

-- A node, and nodes side by side, each with the pivot before it. There is no pivot before the first: it has the empty key.
mutual
  pub data Tree (V M : Type 0) : Type 0 where
    leaf : Rows V → Tree V M
    inner : Nodes V M → Messages M → Tree V M

  pub data Nodes (V M : Type 0) : Type 0 where
    none : Nodes V M
    node : Key → Tree V M → Nodes V M → Nodes V M

-- nodes side by side, as a list
abbrev pub Siblings : Type 0 → Type 0 → Type 0
Siblings V M = List (Key × Tree V M)

-- each item with the pivot before it, and the first with the empty key
abbrev pub with_pivots : {X : Type 0} → List Key → List X → List (Key × X)
with_pivots pivots xs = zip ([] ∷ pivots) xs

-- the pivots between siblings
abbrev pub pivots_of : {V M : Type 0} → Siblings V M → List Key
pivots_of xs = map (λ x. x.0) (drop 1 xs)

-- the children of a node as a list
abbrev pub children : {V M : Type 0} → Nodes V M → Siblings V M
children none = []
children (node k t ns) = (k, t) ∷ children ns

-- a list of siblings as the children of a node
abbrev pub nodes : {V M : Type 0} → Siblings V M → Nodes V M
nodes [] = none
nodes (x ∷ xs) = node x.0 x.1 (nodes xs)

-- the number of nodes from the root down to the deepest leaf
abbrev mutual
  pub height : {V M : Type 0} → Tree V M → ℕ
  height (leaf rows) = 1
  height (inner ns buffer) = suc (height_below ns)

  pub height_below : {V M : Type 0} → Nodes V M → ℕ
  height_below none = 0
  height_below (node k t ns) = max (height t) (height_below ns)
