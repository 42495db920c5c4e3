use Rattle.bt_node.proofs.offered.ShapedTrees.{shaped-inner}
use Rattle.test_calls.proofs.trees.regrouped.Goals as goal

pub regroup-requires : goal.regroup-requires
regroup-requires g c =
    let sizes = shaped-inner _ _ _ c.apart-shape.ensures.fits _ _ c.in-Inner.ensures.0 in
    record {
      several = sizes.0;
      capacity = sizes.1;
      divided = c.in-Inner.ensures.1;
    }
