use Rattle.std.proofs.Common.{◌≡◌, ◌∙◌, ap, arith, map}
use Rattle.std.proofs.lemmas.Result.{IfOk-weaker}
use Rattle.bt_value.specs.Lists.{concatenation}
use Rattle.bt_form.specs.Flushes.{holds}
use Rattle.bt_fanout.specs.Effects.{row_effect}
use Rattle.bt_fanout.specs.inside.EffectJobs.{effects_there}
use Rattle.bt_fanout.proofs.EffectJobs.{joined_map, named_as_many, named_effects, named_few, named_rise}
use Rattle.bt_fanout.proofs.library_calls.effects.Goals as goal

pub effect_jobs-requires-clause-rising : goal.effect_jobs-requires-clause-rising
effect_jobs-requires-clause-rising g c =
    named_rise (λ k. k.now) c.args.cover.now c.args.packet.now c.in_ok-keys.field-0.keys.items c.in_ok-keys.field-0.others.items c.in_ok-keys.ensures.keys c.in_ok-keys.ensures.others
    c.in_ok-keys.ensures.sorted c.as_slice.result.now c.as_slice-2.result.now c.as_slice.ensures.value c.as_slice-2.ensures.value

pub effect_jobs-requires-clause-same : goal.effect_jobs-requires-clause-same
effect_jobs-requires-clause-same g c =
    named_as_many (λ k. k.now) c.args.cover.now c.args.packet.now c.in_ok-keys.field-0.keys.items c.in_ok-keys.field-0.others.items c.in_ok-keys.ensures.keys
    c.in_ok-keys.ensures.others c.in_ok-keys.ensures.sorted c.as_slice.result.now c.as_slice-2.result.now c.as_slice.ensures.value c.as_slice-2.ensures.value

pub effect_jobs-requires-clause-few : goal.effect_jobs-requires-clause-few
effect_jobs-requires-clause-few g c =
    let few = named_few (λ k. k.now) c.args.cover.now c.args.packet.now c.in_ok-keys.field-0.keys.items c.in_ok-keys.field-0.others.items c.in_ok-keys.ensures.keys c.in_ok-keys.ensures.others
    c.in_ok-keys.ensures.sorted c.as_slice.result.now c.as_slice-2.result.now c.as_slice.ensures.value c.as_slice-2.ensures.value c.len.result _ c.len.ensures.count c.len.ensures.bound in
    omega (arith, few)

pub returns : goal.returns
returns g c =
    let there = effects_there c.args.packet.now in
    let jobs = c.in_ok-jobs.jobs.items in
    let lists : c.in_ok-lists.lists.items ≡ map there jobs = c.in_ok-lists.ensures.values there (λ job d is. is) in
    let all = c.in_ok-jobs.ensures.effects c.args.packet.now
    ∙ named_effects (λ k. k.now) c.args.cover.now c.args.packet.now c.in_ok-keys.field-0.keys.items c.in_ok-keys.field-0.others.items c.in_ok-keys.ensures.keys
    c.in_ok-keys.ensures.others c.in_ok-keys.ensures.sorted c.as_slice.result.now c.as_slice-2.result.now c.as_slice.ensures.value c.as_slice-2.ensures.value
    (holds row_effect c.args.tree.now.1) in
    IfOk-weaker c.all_effects.result _ _ (λ effects is. is ∙ ap concatenation lists ∙ joined_map there jobs ∙ all) c.all_effects.ensures
