use Rattle.std.proofs.Common.{◌∙◌, ap}
use Rattle.std.proofs.lemmas.Result.{IfOk-weaker}
use Rattle.bt_message.specs.Effects.{effect_of}
use Rattle.bt_form.specs.Flushes.{holds}
use Rattle.bt_form.proofs.offered.rows.Between.{between-all}
use Rattle.bt_node.proofs.tree.Tree.rows.Goals as goal

pub returns-clause-held : goal.returns-clause-held
returns-clause-held g c =
    let effect = effect_of g.V.Merge.terms.merged in
    IfOk-weaker c.rows.result _ _ (λ rows e. e ∙ between-all (holds effect c.walk.result) ∙ ap (holds effect) c.walk.ensures.root) c.rows.ensures.rows
