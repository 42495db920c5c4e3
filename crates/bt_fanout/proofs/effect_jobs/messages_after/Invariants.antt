use Rattle.std.proofs.Common.{◌≡◌, ◌-◌, drop}
use Rattle.bt_fanout.proofs.effect_jobs.messages_after.Given as goal

-- the messages after those that are still to be taken
abbrev pub invariant-loop : goal.invariant-loop
invariant-loop l = drop (l.count - l.counter) l.messages ≡ drop l.count l.packet
