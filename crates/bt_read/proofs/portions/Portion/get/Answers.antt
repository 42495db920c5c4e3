use Rattle.std.proofs.Common.{◌∙◌, ap, sym}
use Rattle.std.proofs.lemmas.Result.{IfOk-weaker}
use Rattle.bt_message.specs.Effects.{effect_of}
use Rattle.bt_form.specs.Flushes.{holds}
use Rattle.bt_form.specs.Messages.{value_after}
use Rattle.bt_form.specs.Portions.{value_in}
use Rattle.bt_read.proofs.lemmas.lookups.HeldValues.{tree_value-held}
use Rattle.bt_form.proofs.offered.rows.Values.{find-rows}
use Rattle.bt_read.proofs.portions.Portion.get.Goals as goal

pub returns : goal.returns
returns g c =
    let effect = effect_of g.V.Merge.terms.merged in
    let key = c.args.key.now in
    let node = c.self.inside.node.now in
    let newer = c.self.inside.newer in
    let order = c.self.invariant.0 in
    IfOk-weaker c.into_value.result _ _
    (λ value e.
    e ∙ c.in_ok-effect_at.ensures ∙ ap (value_after effect key newer) (c.in_ok-old.ensures ∙ tree_value-held effect order.0 order.1 order.2 node key order.3)
    ∙ sym (find-rows effect key newer (holds effect node)) ∙ ap (value_in effect key) c.self.view_is)
    c.into_value.ensures
