use Rattle.std.proofs.Common.{◌≡◌, ◌+◌, ◌≤◌, ◌++◌, vec_capacity, vec_len}
use Rattle.std.specs.Vec.Iter.{into_iter_items, into_iter_len}
use Rattle.bt_message.specs.Weights.{weigh_of}
use Rattle.bt_gather.specs.Views.{pieces_of}
use Rattle.bt_gather.specs.inside.RoundTrees.{AreFilledBy, trees_with}
use Rattle.bt_gather.proofs.round_tree.whole_trees.Given as goal

-- the trees so far, and then those that are left with the pieces that are left
abbrev pub invariant-loop-tree : goal.invariant-loop-tree
invariant-loop-tree g l = record {
  whole : l.whole.items ++ trees_with l.tree-iterator.rest.items (pieces_of (into_iter_items l.pieces)) ≡ trees_with l.fn.trees.items (pieces_of l.fn.pieces.items);
  fill : AreFilledBy (weigh_of g.V.Merge.terms) l.tree-iterator.rest.items (pieces_of (into_iter_items l.pieces));
  space : vec_len l.whole + into_iter_len l.tree-iterator ≤ vec_capacity l.whole;
}
