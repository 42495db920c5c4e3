use Rattle.std.proofs.Common.{◌∙◌, ap, arith, drop, length, map, sym}
use Rattle.bt_form.proofs.offered.code.SiblingParts.{with_pivots-length, with_pivots-pivots}
use Rattle.bt_form.proofs.node.Siblings.pivots.Goals as goal

pub returns-clause-pivots : goal.returns-clause-pivots
returns-clause-pivots g c =
    c.as_slice.ensures.value ∙ sym (with_pivots-pivots c.self.inside.pivots.items c.self.inside.nodes.items c.self.invariant) ∙ ap (λ xs. map (λ x. x.0) (drop 1 xs)) c.self.view_is

pub returns-clause-some : goal.returns-clause-some
returns-clause-some g c = omega (arith, c.self.invariant, with_pivots-length c.self.inside.pivots.items c.self.inside.nodes.items c.self.invariant, ap length c.self.view_is)
