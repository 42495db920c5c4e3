use Rattle.std.proofs.Common.{◌≡◌, ◌≤◌, vec_len, vec_capacity}
use Rattle.bt_gang.proofs.answers.answer_rooms.Given as goal

abbrev pub invariant-loop : goal.invariant-loop
invariant-loop g l = record {
  count : vec_len l.rooms ≡ l.counter;
  room : l.n ≤ vec_capacity l.rooms;
}
