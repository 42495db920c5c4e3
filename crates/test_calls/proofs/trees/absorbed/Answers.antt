use Rattle.bt_node.proofs.offered.ShapedTrees.{shaped-in_order, whole-fit}
use Rattle.test_calls.proofs.trees.absorbed.Goals as goal

pub absorb_alone-requires : goal.absorb_alone-requires
absorb_alone-requires g c = record { in_order = shaped-in_order _ _ _ c.apart-shape.ensures.fits }

pub crown-requires : goal.crown-requires
crown-requires g c =
    whole-fit _ _ _ c.apart-shape.ensures.fits c.args.packet _ c.in_ok-siblings.ensures.fits
