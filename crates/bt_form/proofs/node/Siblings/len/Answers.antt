use Rattle.std.proofs.Common.{ap, arith, length, subst}
use Rattle.bt_form.specs.Fits.{IsLed}
use Rattle.bt_form.proofs.offered.code.SiblingParts.{with_pivots-led, with_pivots-length}
use Rattle.bt_form.proofs.node.Siblings.len.Goals as goal

pub returns-clause-count : goal.returns-clause-count
returns-clause-count g c =
    omega (arith, c.len.ensures, with_pivots-length c.self.inside.pivots.items c.self.inside.nodes.items c.self.invariant, ap length c.self.view_is, c.self.inside.nodes.ok.0)

pub returns-clause-led : goal.returns-clause-led
returns-clause-led g c = subst IsLed c.self.view_is (with_pivots-led c.self.inside.pivots.items c.self.inside.nodes.items c.self.invariant)
