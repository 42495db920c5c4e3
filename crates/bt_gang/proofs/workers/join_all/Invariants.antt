use Rattle.std.proofs.Common.{◌≡◌, ◌+◌, ◌≤◌, vec_len, vec_capacity}
use Rattle.std.specs.Vec.Iter.{into_iter_items, into_iter_len}
use Rattle.bt_gang.specs.inside.Workers.{AllByNumber, HasServedIfStarted, IsChild}
use Rattle.bt_gang.proofs.workers.join_all.Given as goal

abbrev pub invariant-loop-child : goal.invariant-loop-child
invariant-loop-child g l = record {
  children : AllByNumber (IsChild l.shift.work.now l.shift.jobs.now l.all.value.items) (1 + vec_len l.back) (into_iter_items l.child-iterator);
  back : AllByNumber (HasServedIfStarted (g.W.Work.allows l.shift.work.now) l.shift.jobs.now l.all.value.items) 1 l.back.items;
  count : vec_len l.back + into_iter_len l.child-iterator ≡ vec_len l.fn.children;
  room : vec_len l.fn.children ≤ vec_capacity l.back;
}
