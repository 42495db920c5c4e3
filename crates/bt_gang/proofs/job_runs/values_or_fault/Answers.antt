use Rattle.std.proofs.Common.{IsFalse, IsTrue, rules}
use Rattle.bt_gang.proofs.job_runs.values_or_fault.Goals as goal

pub values-requires-clause-full : goal.values-requires-clause-full
values-requires-clause-full g c = let is : IsTrue c.is_full.result = search rules in c.is_full.ensures.full is

pub returns-then-not-is_full-clause-fault : goal.returns-then-not-is_full-clause-fault
returns-then-not-is_full-clause-fault g c = let is : IsFalse c.is_full.result = search rules in c.is_full.ensures.free is

pub returns-in-Err-clause-fault : goal.returns-in-Err-clause-fault
returns-in-Err-clause-fault g c =
    let is : IsTrue c.is_full.result = search rules in
    (c.is_full.ensures.full is, c.in-Err.ensures.err)
