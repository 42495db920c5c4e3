use Rattle.std.proofs.Common.{rules}
use Rattle.bt_gang.proofs.Filling.{one_empty}
use Rattle.bt_gang.proofs.job_runs.ran_nothing.Goals as goal

pub loop-preserved : goal.loop-preserved
loop-preserved g c = record {
  taken = one_empty _ _ _ _ c.push_reserved.ensures.items c.new.ensures c.loop.invariant.taken;
  count = search rules;
  room = search rules;
}
