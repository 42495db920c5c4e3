use Rattle.std.proofs.Common.{◌∙◌, ap, map}
use Rattle.std.proofs.lemmas.Result.{IfOk-weaker}
use Rattle.bt_message.specs.Effects.{effect_of}
use Rattle.bt_read.specs.inside.Together.{tree_values}
use Rattle.bt_read.proofs.lemmas.code.Together.{all_held}
use Rattle.bt_read.proofs.walk.Walk.values.Goals as goal

pub returns : goal.returns
returns g c =
    let effect = effect_of g.V.Merge.terms.merged in
    let order = c.requires in
    IfOk-weaker c.into_values.result _ _ (λ values e. e ∙ c.in_ok-tree_values.ensures ∙ ap (tree_values effect (map (λ k. k.now) c.args.keys.now)) c.self.view_is
    ∙ all_held effect (λ k. k.now) order.0 order.1 order.2 c.args.self.now c.args.keys.now order.3) c.into_values.ensures
