use Rattle.std.proofs.Common.{◌≡◌, ◌++◌, ◌+◌, ◌≤◌, length, vec_len, vec_capacity}
use Rattle.std.specs.Vec.Iter.{into_iter_items, into_iter_len}
use Rattle.bt_gang.specs.inside.Places.{ok_slots}
use Rattle.bt_gang.proofs.slots.values.Given as goal

abbrev pub invariant-loop-slot : goal.invariant-loop-slot
invariant-loop-slot g l = record {
  so_far : l.fn.slots.items ≡ ok_slots l.done.items ++ into_iter_items l.slot-iterator;
  number : l.number ≡ length l.done.items;
  count : l.number ≡ vec_len l.done;
  room : vec_len l.done + into_iter_len l.slot-iterator ≤ vec_capacity l.done;
}
