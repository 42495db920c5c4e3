use Rattle.std.proofs.Common.{◌≡◌, ◌+◌, ◌-◌, ◌++◌, [], replicate, vec_len, vec_capacity}
use Rattle.bt_messages.proofs.bins.push_empty.Given as goal

abbrev pub invariant-loop : goal.invariant-loop
invariant-loop g l = record {
  pushed : l.buffers.items ++ replicate (l.count - l.counter) [] ≡ l.fn.buffers.items ++ replicate l.count [];
  len : vec_len l.buffers ≡ vec_len l.fn.buffers + l.counter;
  capacity : vec_capacity l.buffers ≡ vec_capacity l.fn.buffers;
}
