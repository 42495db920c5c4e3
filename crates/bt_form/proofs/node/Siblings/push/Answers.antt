use Rattle.std.proofs.Common.{◌∙◌, ◌∷◌, ◌++◌, [], ap}
use Rattle.bt_form.proofs.offered.code.SiblingParts.{one-more}
use Rattle.bt_form.proofs.node.Siblings.push.Goals as goal

pub returns : goal.returns
returns g c =
    one-more c.self.inside.pivots.items _ c.self.inside.nodes.items _ c.args.pivot c.args.node c.self.invariant
    (c.push_reserved-2.ensures.items ∙ ap (λ ks. ks ++ c.args.pivot ∷ []) c.reserve-2.ensures.items)
    (c.push_reserved.ensures.items ∙ ap (λ xs. xs ++ c.args.node ∷ []) c.reserve.ensures.items)
    ∙ ap (λ xs. xs ++ (c.args.pivot, c.args.node) ∷ []) c.self.view_is
