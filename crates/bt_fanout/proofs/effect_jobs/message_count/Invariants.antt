use Rattle.std.proofs.Common.{◌≡◌, ◌+◌, drop}
use Rattle.bt_fanout.specs.inside.EffectJobs.{message_total}
use Rattle.bt_fanout.proofs.effect_jobs.message_count.Given as goal

-- the messages so far, and those of the keys that are left
abbrev pub invariant-loop-other : goal.invariant-loop-other
invariant-loop-other l = l.count + message_total (drop l.other-index l.others) ≡ message_total l.others
