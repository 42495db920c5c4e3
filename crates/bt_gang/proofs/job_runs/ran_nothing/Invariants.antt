use Rattle.std.proofs.Common.{◌≡◌, ◌≤◌, [], replicate, vec_len, vec_capacity}
use Rattle.bt_gang.proofs.job_runs.ran_nothing.Given as goal

abbrev pub invariant-loop : goal.invariant-loop
invariant-loop g l = record {
  taken : l.taken.items ≡ replicate l.counter [];
  count : vec_len l.taken ≡ l.counter;
  room : l.workers ≤ vec_capacity l.taken;
}
