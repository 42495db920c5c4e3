use Rattle.std.proofs.Common.{◌≡◌, ◌+◌, ◌≤◌, ◌++◌, map, vec_len, vec_capacity}
use Rattle.std.specs.Vec.Iter.{into_iter_items, into_iter_len}
use Rattle.crossbeam_queue.specs.Passes.{view, IsPassOf}
use Rattle.bt_gang.specs.inside.Workers.{AllByNumber, HasServedIfStarted, TookIn, out_of}
use Rattle.bt_gang.proofs.workers.take_in.Given as goal

abbrev pub invariant-loop-worker : goal.invariant-loop-worker
invariant-loop-worker g l = record {
  pass : IsPassOf l.shift.jobs.now.queue l.pass;
  took : TookIn (view l.fn.pass) (view l.pass) l.outs.items;
  workers : AllByNumber (HasServedIfStarted (g.W.Work.allows l.shift.work.now) l.shift.jobs.now l.all.value.items) (1 + vec_len l.outs) (into_iter_items l.worker-iterator);
  outs : l.outs.items ++ map out_of (into_iter_items l.worker-iterator) ≡ map out_of l.fn.workers.items;
  count : vec_len l.outs + into_iter_len l.worker-iterator ≡ vec_len l.fn.workers;
  room : vec_len l.fn.workers ≤ vec_capacity l.outs;
}
