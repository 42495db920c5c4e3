use Rattle.std.proofs.Common.{◌∙◌, ap}
use Rattle.std.proofs.lemmas.Result.{IfOk-weaker}
use Rattle.bt_message.specs.Effects.{effect_of}
use Rattle.bt_read.specs.inside.Lookups.{tree_value}
use Rattle.bt_read.proofs.lemmas.lookups.HeldValues.{tree_value-held}
use Rattle.bt_read.proofs.walk.Walk.get.Goals as goal

pub returns : goal.returns
returns g c =
    let effect = effect_of g.V.Merge.terms.merged in
    let order = c.requires in
    IfOk-weaker c.into_value.result _ _ (λ value e. e ∙ c.in_ok-tree_value.ensures ∙ ap (tree_value effect c.args.key.now) c.self.view_is
    ∙ tree_value-held effect order.0 order.1 order.2 c.args.self.now c.args.key.now order.3) c.into_value.ensures
