use Rattle.std.proofs.Common.{◌≡◌, ◌+◌, ◌≤◌, ◌++◌, map, vec_capacity, vec_len}
use Rattle.std.specs.Vec.Iter.{into_iter_len}
use Rattle.bt_gather.specs.inside.RoundJobs.{shaped}
use Rattle.bt_gather.proofs.round_tree.shaped_jobs.Given as goal

-- the jobs so far, and then those that are left
abbrev pub invariant-loop-job : goal.invariant-loop-job
invariant-loop-job g l = record {
  found : l.found.items ++ map (shaped l.shape) l.job-iterator.rest.items ≡ map (shaped l.fn.shape) l.fn.jobs.items;
  room : vec_len l.found + into_iter_len l.job-iterator ≤ vec_capacity l.found;
}
