use Rattle.std.proofs.Common.{◌∙◌, ap, arith, length, rules, sym}
use Rattle.bt_form.proofs.offered.code.SiblingParts.{with_pivots-length, with_pivots-only}
use Rattle.bt_form.proofs.node.Siblings.into_only.Goals as goal

pub returns : goal.returns
returns g c =
    let one = with_pivots-length c.self.inside.pivots.items c.self.inside.nodes.items c.self.invariant in
    sym c.self.view_is ∙ with_pivots-only c.self.inside.pivots.items c.self.inside.nodes.items c.pop.new.self.items c.in-Some.node (search rules)
    (omega (arith, one, c.requires, ap length c.self.view_is))
