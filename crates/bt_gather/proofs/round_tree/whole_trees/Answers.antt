use Rattle.std.proofs.Common.{rules}
use Rattle.std.specs.Vec.Iter.{into_iter_items}
use Rattle.bt_message.specs.Weights.{weigh_of}
use Rattle.bt_gather.proofs.PieceShares.{next-fill, next-trees}
use Rattle.bt_gather.proofs.round_tree.whole_trees.Goals as goal

pub loop-tree-preserved : goal.loop-tree-preserved
loop-tree-preserved g c =
    let i = c.loop-tree.invariant in
    let one = c.in-Some.ensures.steps.0 in
    let whole = c.in_ok-whole_tree.ensures in record {
      whole = next-trees c.in-Some.tree _ _ one (into_iter_items c.loop-tree.pieces) _ whole.left c.loop-tree.whole.items _ c.in_ok-whole_tree.field-0
          c.push_reserved.ensures.items whole.tree _ i.whole;
      fill = (next-fill c.in-Some.tree _ _ one (into_iter_items c.loop-tree.pieces) _ whole.left (weigh_of g.V.Merge.terms) i.fill).1;
      space = search rules;
    }
