use Rattle.std.proofs.Common.{◌≡◌, ◌+◌, ◌-◌, ◌≤◌, drop, length, take, vec_len, vec_capacity}
use Rattle.bt_keycode.specs.Keys.{IsSorted}
use Rattle.bt_message.specs.Messages.{with_messages}
use Rattle.bt_messages.proofs.share.insert_front.Given as goal

abbrev pub invariant-loop : goal.invariant-loop
invariant-loop g l = record {
  inserted : with_messages (take (l.count - l.counter) l.stream) l.messages.items ≡ with_messages (take l.count l.fn.stream) l.fn.messages.items;
  sorted : IsSorted l.messages.items;
  left : drop (l.count - l.counter) l.stream ≡ drop l.count l.fn.stream;
  len : length l.stream + l.counter ≡ length l.fn.stream;
  room : vec_len l.messages + (l.count - l.counter) ≤ vec_capacity l.messages;
}
