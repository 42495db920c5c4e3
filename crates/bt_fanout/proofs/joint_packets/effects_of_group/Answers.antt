use Rattle.std.proofs.Common.{◌∙◌, ◌++◌, ap, append_assoc, subst, sym}
use Rattle.std.proofs.lemmas.List.Elements.{All-head, All-tail}
use Rattle.std.specs.List.{All, flat_map}
use Rattle.std.specs.Vec.Iter.{into_iter_items}
use Rattle.bt_fanout.specs.inside.EffectJobs.{IsWhole, effects_there}
use Rattle.bt_fanout.proofs.joint_packets.effects_of_group.Goals as goal

pub effects_of_job-requires : goal.effects_of_job-requires
effects_of_job-requires c =
    All-head IsWhole c.in-Some.job (into_iter_items c.next.new.self) (subst (All IsWhole) c.in-Some.ensures.steps.0 c.loop-job.invariant.whole)

pub loop-job-preserved : goal.loop-job-preserved
loop-job-preserved c =
    let there = effects_there c.args.packet.now in
    let later = into_iter_items c.next.new.self in
    let steps = c.in-Some.ensures.steps.0 in
    let all = c.loop-job.all.items in
    record {
      whole = All-tail IsWhole c.in-Some.job later (subst (All IsWhole) steps c.loop-job.invariant.whole);
      effects = ap (λ l. l ++ flat_map there later) (c.in_ok-append.ensures.items ∙ ap (λ es. all ++ es) c.in_ok-effects.ensures)
          ∙ append_assoc all (there c.in-Some.job) (flat_map there later) ∙ ap (λ js. all ++ flat_map there js) (sym steps) ∙ c.loop-job.invariant.effects;
    }
