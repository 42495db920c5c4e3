-- The tree that a node represents, by the kind of the node.
use Rattle.std.specs.Prelude.{◌≤◌, length}
use Rattle.bt_form.specs.declared.node.NodeKind.{NodeKind}
use Rattle.bt_form.specs.declared.node.NodeKind.TheVariants.{Leaf, Inner}
use Rattle.bt_form.specs.declared.shape.TheConstants.{LARGEST_FANOUT}
use Rattle.bt_value.specs.Lists.{concatenation}
use Rattle.bt_messages.specs.Bins.{LieBetween}
use Rattle.bt_message.specs.declared.message.Message.{Message}
use Rattle.bt_form.specs.Trees.{Tree, leaf, inner, nodes, pivots_of}

-- the buffer of an inner node is its bins, one after the other
abbrev pub tree_of : {V D : Type 0} → NodeKind V D → Tree V (Message V D)
tree_of (Leaf rows) = leaf rows
tree_of (Inner children bins) = inner (nodes children) (concatenation bins)

-- each child of an inner node has a bin, whose messages lie between the pivots around the child
abbrev pub HasBins : {V D : Type 0} → NodeKind V D → Type 0
HasBins (Leaf rows) = Unit {0}
HasBins (Inner children bins) = LieBetween (pivots_of children) bins

-- an inner node has at most as many children as the largest fanout
abbrev pub HasFew : {V D : Type 0} → NodeKind V D → Type 0
HasFew (Leaf rows) = Unit {0}
HasFew (Inner children bins) = length children ≤ LARGEST_FANOUT
