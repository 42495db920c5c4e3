use Rattle.std.proofs.Common.{◌≡◌, ◌≤◌, [], All, vec_len, vec_capacity}
use Rattle.bt_gang.specs.Numbered.{present}
use Rattle.bt_gang.proofs.run_room.empty_answers.Given as goal

abbrev pub invariant-loop : goal.invariant-loop
invariant-loop g l = record {
  each : All (λ a. (present a.list ≡ []) × (a.spare ≡ l.n)) l.answers.items;
  count : vec_len l.answers ≡ l.counter;
  room : l.k ≤ vec_capacity l.answers;
}
