use Rattle.std.proofs.Common.{◌≡◌, ◌+◌, ◌≤◌, ◌++◌, length, map, vec_len, vec_capacity}
use Rattle.bt_read.specs.inside.ValuesSoFar.{option_of}
use Rattle.bt_read.proofs.joint_lookup.into_values.Given as goal

abbrev pub invariant-loop-value : goal.invariant-loop-value
invariant-loop-value g l = record {
  copies : map option_of l.fn.values.items ≡ l.copies.items ++ map option_of l.value-iterator.rest.items;
  room : vec_len l.copies + length l.value-iterator.rest.items ≤ vec_capacity l.copies;
}
