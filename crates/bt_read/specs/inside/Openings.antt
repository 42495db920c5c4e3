-- The number of children of a node that a portion of it has left.
use Rattle.std.specs.Prelude.{ℕ, List, [], ◌-◌, length}
use Rattle.bt_keycode.specs.Keys.{Key}
use Rattle.bt_form.specs.Trees.{Tree, children, inner, leaf, pivots_of}
use Rattle.bt_form.specs.Portions.{Portion}
use Rattle.bt_read.specs.inside.Lookups.{first_place}

module _ {V M : Type 0} where
  -- the pivots between the children of a node
  abbrev pub pivots_in : Tree V M → List Key
  pivots_in (leaf rows) = []
  pivots_in (inner ns buffer) = pivots_of (children ns)

  abbrev pub children_left : Portion V M → ℕ
  children_left p = length (pivots_in p.tree) - first_place p.low (pivots_in p.tree)
