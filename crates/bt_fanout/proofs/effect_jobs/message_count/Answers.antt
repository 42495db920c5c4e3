use Rattle.std.proofs.Common.{arith}
use Rattle.bt_fanout.proofs.EffectJobs.{counted}
use Rattle.bt_fanout.proofs.effect_jobs.message_count.Goals as goal

pub overflow_add-count : goal.overflow_add-count
overflow_add-count c =
    let now = counted c.args.others.now c.loop-other.other-index c.loop-other-test.true in
    omega (arith, c.requires, c.loop-other.invariant, now)

pub loop-other-preserved : goal.loop-other-preserved
loop-other-preserved c =
    let now = counted c.args.others.now c.loop-other.other-index c.loop-other-test.true in
    omega (arith, c.loop-other.invariant, now)
