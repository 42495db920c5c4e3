use Rattle.std.proofs.Common.{◌≡◌, ◌+◌, ◌-◌, ◌++◌, drop, length, take, vec_len, vec_capacity}
use Rattle.bt_messages.proofs.stream.Stream.move_front.Given as goal

abbrev pub invariant-loop : goal.invariant-loop
invariant-loop g l = record {
  moved : l.into.items ++ take (l.count - l.counter) l.self ≡ l.fn.into.items ++ take l.count l.fn.self;
  left : drop (l.count - l.counter) l.self ≡ drop l.count l.fn.self;
  len : length l.self + l.counter ≡ length l.fn.self;
  room : vec_len l.into ≡ vec_len l.fn.into + l.counter;
  capacity : vec_capacity l.into ≡ vec_capacity l.fn.into;
}
