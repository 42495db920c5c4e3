use Rattle.std.proofs.Common.{◌≡◌, ◌+◌, ◌∙◌, ap, arith, length, subst, sym}
use Rattle.bt_messages.specs.Bins.{LieBetween}
use Rattle.bt_form.specs.Children.{AreDivided}
use Rattle.bt_form.specs.Flushes.{gathered}
use Rattle.bt_form.specs.Trees.{pivots_of}
use Rattle.bt_form.proofs.offered.code.ChildLists.{bins_lie, length-whole, node_of_all}
use Rattle.bt_form.proofs.offered.code.SiblingParts.{with_pivots-length}
use Rattle.bt_form.proofs.children.Children.into_node.Goals as goal

pub inner-requires-clause-divided : goal.inner-requires-clause-divided
inner-requires-clause-divided g c =
    let inside = c.self.inside in
    let long = length-whole inside.first inside.pivots.items inside.nodes.items inside.bins.items c.self.invariant.0 (omega (arith, c.self.invariant.1)) in
    let one : length inside.nodes.items ≡ length inside.pivots.items + 1 = omega (arith, c.self.invariant.1, long, ap length c.self.view_is, c.requires.some) in
    subst (LieBetween (pivots_of c.from_parts-children.result)) (sym c.from_buffers.ensures)
    (bins_lie inside.first inside.pivots.items inside.nodes.items inside.bins.items c.self.invariant.0 one c.from_parts-children.result c.from_parts-children.ensures
    (subst AreDivided (sym c.self.view_is) c.requires.divided))

pub inner-requires-clause-few : goal.inner-requires-clause-few
inner-requires-clause-few g c =
    let inside = c.self.inside in
    let long = length-whole inside.first inside.pivots.items inside.nodes.items inside.bins.items c.self.invariant.0 (omega (arith, c.self.invariant.1)) in
    let one : length inside.nodes.items ≡ length inside.pivots.items + 1 = omega (arith, c.self.invariant.1, long, ap length c.self.view_is, c.requires.some) in
    omega (arith, ap length c.from_parts-children.ensures, with_pivots-length inside.pivots.items inside.nodes.items one, long, ap length c.self.view_is, c.requires.few)

pub returns : goal.returns
returns g c =
    let inside = c.self.inside in
    let long = length-whole inside.first inside.pivots.items inside.nodes.items inside.bins.items c.self.invariant.0 (omega (arith, c.self.invariant.1)) in
    let one : length inside.nodes.items ≡ length inside.pivots.items + 1 = omega (arith, c.self.invariant.1, long, ap length c.self.view_is, c.requires.some) in
    node_of_all inside.first inside.pivots.items inside.nodes.items inside.bins.items c.self.invariant.0 one c.inner.result c.from_parts-children.result c.from_buffers.result
    c.from_parts-children.ensures c.from_buffers.ensures c.inner.ensures
    ∙ ap gathered c.self.view_is
