-- What a node shows without the nodes below it.
use Rattle.std.specs.Prelude.{Bool, true, false, []}
use Rattle.bt_form.specs.Messages.{Rows, Messages}
use Rattle.bt_form.specs.Trees.{Tree, leaf, inner, Siblings, children}

module _ {V M : Type 0} where
  abbrev pub is_leaf : Tree V M → Bool
  is_leaf (leaf rows) = true
  is_leaf (inner ns buffer) = false

  -- the rows of a leaf
  abbrev pub rows_of : Tree V M → Rows V
  rows_of (leaf rows) = rows
  rows_of (inner ns buffer) = []

  -- the messages and the children of an inner node
  abbrev pub messages_of : Tree V M → Messages M
  messages_of (leaf rows) = []
  messages_of (inner ns buffer) = buffer

  abbrev pub children_of : Tree V M → Siblings V M
  children_of (leaf rows) = []
  children_of (inner ns buffer) = children ns
