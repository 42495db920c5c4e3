use Rattle.std.proofs.Common.{◌∙◌, ap, map, sym}
use Rattle.bt_form.proofs.offered.code.SiblingParts.{with_pivots-items}
use Rattle.bt_form.proofs.node.Siblings.nodes.Goals as goal

pub returns : goal.returns
returns g c =
    c.as_slice.ensures.value ∙ sym (with_pivots-items c.self.inside.pivots.items c.self.inside.nodes.items c.self.invariant) ∙ ap (map (λ x. x.1)) c.self.view_is
