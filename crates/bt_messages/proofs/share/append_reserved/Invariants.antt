use Rattle.std.proofs.Common.{◌≡◌, ◌+◌, ◌++◌, length, vec_len, vec_capacity}
use Rattle.bt_messages.proofs.share.append_reserved.Given as goal

abbrev pub invariant-loop-entry : goal.invariant-loop-entry
invariant-loop-entry g l = record {
  pushed : l.fn.merged.items ++ l.fn.messages.items ≡ l.merged.items ++ l.entry-iterator.rest.items;
  len : vec_len l.merged + length l.entry-iterator.rest.items ≡ vec_len l.fn.merged + length l.fn.messages.items;
  capacity : vec_capacity l.merged ≡ vec_capacity l.fn.merged;
}
