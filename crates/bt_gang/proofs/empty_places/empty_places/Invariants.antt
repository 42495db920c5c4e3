use Rattle.std.proofs.Common.{◌≡◌, ◌≤◌, None, replicate, vec_len, vec_capacity}
use Rattle.bt_gang.proofs.empty_places.empty_places.Given as goal

abbrev pub invariant-loop : goal.invariant-loop
invariant-loop g l = record {
  items : l.places.items ≡ replicate l.counter None;
  count : vec_len l.places ≡ l.counter;
  room : l.n ≤ vec_capacity l.places;
}
