use Rattle.std.proofs.Common.{◌≡◌, ◌+◌, ◌≤◌, ◌++◌, length, map, vec_len, vec_capacity}
use Rattle.std.specs.Vec.Iter.{into_iter_items, into_iter_len}
use Rattle.bt_value.specs.Lists.{concatenation}
use Rattle.bt_gang.specs.inside.Places.{AllBelow, answers_in, numbers_in, puts}
use Rattle.bt_gang.proofs.job_runs.place_all.Given as goal

abbrev pub invariant-loop-out : goal.invariant-loop-out
invariant-loop-out g l = record {
  slots : puts l.slots.items (concatenation (map answers_in (into_iter_items l.out-iterator))) ≡ puts l.fn.slots.items (concatenation (map answers_in l.fn.outs.items));
  numbers : AllBelow (length l.slots.items) (concatenation (map answers_in (into_iter_items l.out-iterator)));
  taken : l.taken.items ++ map numbers_in (into_iter_items l.out-iterator) ≡ l.fn.taken.items ++ map numbers_in l.fn.outs.items;
  count : vec_len l.taken + into_iter_len l.out-iterator ≡ vec_len l.fn.taken + vec_len l.fn.outs;
  room : vec_len l.fn.taken + vec_len l.fn.outs ≤ vec_capacity l.taken;
}
