use Rattle.std.proofs.Common.{arith, rules}
use Rattle.bt_message.specs.Effects.{effect_of}
use Rattle.bt_message.specs.Weights.{weigh_of}
use Rattle.bt_form.specs.Fits.{IsRoomy}
use Rattle.bt_flush.proofs.offered.Levels.{stands_above}
use Rattle.bt_node.proofs.lemmas.crowns.ShapedTrees.{crown_holds, has_room}
use Rattle.bt_node.proofs.tree.crown.Goals as goal

pub returns-clause-rows : goal.returns-clause-rows
returns-clause-rows g c =
    let roomy : IsRoomy c.args.shape = search (has_room, rules) in
    crown_holds (weigh_of g.V.Merge.terms) c.args.shape (effect_of g.V.Merge.terms.merged) _ c.args.siblings roomy c.requires c.in_ok-root.ensures

pub returns-clause-stands : goal.returns-clause-stands
returns-clause-stands g c =
    let roomy : IsRoomy c.args.shape = search (has_room, rules) in
    stands_above c.args.shape (omega (arith, roomy.fanout)) c.args.siblings _ c.in_ok-root.ensures
