use Rattle.std.proofs.Common.{◌∙◌, ap, fold}
use Rattle.std.specs.Option.{option_copied}
use Rattle.bt_message.specs.Effects.{effect_of}
use Rattle.bt_form.specs.Flushes.{holds}
use Rattle.bt_form.specs.Messages.{between}
use Rattle.bt_form.specs.Portions.{rows_of}
use Rattle.std.proofs.lemmas.Result.{IfOk-weaker}
use Rattle.bt_portions.proofs.ForkedParts.{after_part, forks-joined}
use Rattle.bt_portions.proofs.portion_visits.read.Goals as goal

pub returns : goal.returns
returns g c =
    let effect = effect_of g.V.Merge.terms.merged in
    let laws = g.met.S.ForkVisitor g.world.𝓛 g.world.𝓜 g.world.𝓡 ((λ s x. x), (λ x. x), (λ x. x), λ x. x) in
    let v = g.S.Visitor.visited in
    let f = g.S.ForkVisitor.forked in
    let j = g.S.ForkVisitor.joined in
    let rows = rows_of effect in
    IfOk-weaker c.with_all.result _ _
    (λ after all.
    all
    ∙ forks-joined v f j rows laws.as_one c.args.visitor c.in_ok-portions.portions.items c.in_ok-jobs.jobs.items c.in_ok-forks.forks.items c.in_ok-jobs.ensures
    (c.in_ok-forks.ensures.values (after_part v f j rows) (λ job d is. is))
    ∙ ap (fold v c.args.visitor) (c.in_ok-portions.ensures.rows ∙ ap (λ t. between (option_copied c.args.from) (option_copied c.args.to) (holds effect t)) c.walk.ensures.root))
    c.with_all.ensures
