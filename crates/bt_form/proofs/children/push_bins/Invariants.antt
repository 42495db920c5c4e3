use Rattle.std.proofs.Common.{◌≡◌, ◌≤◌, ◌+◌, ◌-◌, ◌++◌, [], replicate, vec_capacity, vec_len}
use Rattle.bt_form.proofs.children.push_bins.Given as goal

abbrev pub invariant-loop : goal.invariant-loop
invariant-loop g l = record {
  pushed : l.bins.items ≡ l.initial.bins.items ++ replicate (l.counter - 1) [];
  room : vec_len l.bins + (l.count - l.counter) ≤ vec_capacity l.bins;
}
