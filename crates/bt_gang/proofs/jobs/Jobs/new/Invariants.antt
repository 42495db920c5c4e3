use Rattle.std.proofs.Common.{◌≡◌, ◌+◌, length, vec_len}
use Rattle.std.specs.Vec.Iter.{into_iter_len}
use Rattle.crossbeam_queue.specs.Passes.{view, IsPassOf}
use Rattle.bt_gang.specs.declared.crew.TheConstants.{MOST_WORKERS}
use Rattle.bt_gang.specs.Queue.{known, no_lists}
use Rattle.bt_gang.proofs.jobs.Jobs.new.Given as goal

abbrev pub invariant-loop-job : goal.invariant-loop-job
invariant-loop-job g l = record {
  pass : IsPassOf l.queue l.pass;
  knows : view l.pass ≡ known l.yielded (no_lists MOST_WORKERS);
  number : l.number ≡ length l.yielded;
  left : l.number + into_iter_len l.job-iterator ≡ vec_len l.fn.jobs;
  rooms : into_iter_len l.rooms ≡ into_iter_len l.job-iterator;
}
