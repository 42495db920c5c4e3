use Rattle.std.proofs.Common.{◌≡◌, ◌+◌, ◌<◌, ◌≤◌, [], All, length, vec_len, vec_capacity}
use Rattle.std.specs.Vec.Iter.{into_iter_items, into_iter_len}
use Rattle.crossbeam_queue.specs.Passes.{view, IsPassOf}
use Rattle.bt_gang.specs.declared.crew.TheConstants.{MOST_WORKERS}
use Rattle.bt_gang.specs.Numbered.{present}
use Rattle.bt_gang.specs.inside.Workers.{AllByNumber, IsCaller, IsReady}
use Rattle.bt_gang.proofs.workers.split.Given as goal

abbrev pub invariant-loop-out : goal.invariant-loop-out
invariant-loop-out g l = record {
  pass : IsPassOf l.jobs.queue l.pass;
  caller : IsCaller l.all.value.items (vec_len l.workers) (view l.pass);
  outs : All (λ a. (present a.list ≡ []) × (a.spare ≡ length l.all.value.items)) (into_iter_items l.out-iterator);
  count : vec_len l.workers + into_iter_len l.out-iterator ≡ vec_len l.fn.outs;
  few : vec_len l.fn.outs < MOST_WORKERS;
  room : vec_len l.fn.outs ≤ vec_capacity l.workers;
  each : AllByNumber (IsReady l.jobs l.all.value.items []) 1 l.workers.items;
}
