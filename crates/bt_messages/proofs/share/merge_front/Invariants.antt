use Rattle.std.proofs.Common.{◌≡◌, ◌+◌, ◌-◌, ◌≤◌, ◌++◌, drop, length, take, vec_len, vec_capacity}
use Rattle.bt_message.specs.Messages.{with_messages}
use Rattle.bt_messages.proofs.share.merge_front.Given as goal

abbrev pub invariant-loop : goal.invariant-loop
invariant-loop g l = record {
  wanted : l.fn.merged.items ++ with_messages (take l.count l.fn.stream) l.fn.older.items ≡ l.merged.items ++ with_messages (take (l.count - l.counter) l.stream) l.older.items;
  left : drop (l.count - l.counter) l.stream ≡ drop l.count l.fn.stream;
  len : length l.stream + l.counter ≡ length l.fn.stream;
  room : vec_len l.merged + length l.older.items + (l.count - l.counter) ≤ vec_capacity l.merged;
}
