use Rattle.std.proofs.Common.{◌≡◌, ◌+◌, ◌≤◌, [], vec_len, vec_capacity}
use Rattle.std.specs.Vec.Iter.{into_iter_items, into_iter_len}
use Rattle.bt_gang.specs.inside.Workers.{AllByNumber, IsChild, IsReady}
use Rattle.bt_gang.proofs.workers.start.Given as goal

abbrev pub invariant-loop-worker : goal.invariant-loop-worker
invariant-loop-worker g l = record {
  workers : AllByNumber (IsReady l.shift.jobs.now l.all.value.items []) (1 + vec_len l.children) (into_iter_items l.worker-iterator);
  started : AllByNumber (IsChild l.shift.work.now l.shift.jobs.now l.all.value.items) 1 l.children.items;
  count : vec_len l.children + into_iter_len l.worker-iterator ≡ vec_len l.fn.workers;
  room : vec_len l.fn.workers ≤ vec_capacity l.children;
}
