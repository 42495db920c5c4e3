use Rattle.std.proofs.Common.{◌<◌, ◌∙◌, ◌++◌, ap, arith, length, subst}
use Rattle.bt_value.specs.Lists.{concatenation}
use Rattle.bt_plan.specs.Views.{HasPivotsAndBins, holed_of}
use Rattle.bt_gather.specs.inside.Views.{node_places}
use Rattle.bt_gather.proofs.HolePlaces.{child_shallower, holes_of_children}
use Rattle.bt_gather.proofs.hole_places.+add_places.Goals as goal

pub loop-child-init : goal.loop-child-init
loop-child-init g t c =
    let here = c.parts.ensures.parts ∙ ap holed_of c.in-Opened.is in
    let divided = subst HasPivotsAndBins {x = c.parts.result.now} c.in-Opened.is c.parts.ensures.divided in
    ap (λ hs. node_places c.args.places.now.items ++ hs)
    (holes_of_children c.args.node.now c.in-Opened.pivots.items c.in-Opened.children.items c.deref-child-items.result.now (concatenation c.in-Opened.bins) here
    divided.0 c.deref-child-items.ensures.value)

pub add_places-requires : goal.add_places-requires
add_places-requires g t c κs within =
    let here = c.parts.ensures.parts ∙ ap holed_of c.in-Opened.is in
    let divided = subst HasPivotsAndBins {x = c.parts.result.now} c.in-Opened.is c.parts.ensures.divided in
    let there : c.loop-child.child-index < length c.deref-child-items.result.now = omega arith in
    let shallower = child_shallower c.args.node.now c.in-Opened.pivots.items c.in-Opened.children.items c.deref-child-items.result.now
    (concatenation c.in-Opened.bins) here divided.0 c.deref-child-items.ensures.value
    c.loop-child.child-index c.child-item.result there c.child-item.is in
    (omega (arith, shallower, c.decreases), within)
