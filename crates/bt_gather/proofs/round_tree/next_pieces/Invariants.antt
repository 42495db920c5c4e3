use Rattle.std.proofs.Common.{◌≡◌, ◌≤◌, drop, length, take, vec_capacity, vec_len}
use Rattle.std.specs.Vec.Iter.{into_iter_items}
use Rattle.bt_gather.proofs.round_tree.next_pieces.Given as goal

-- the pieces so far
abbrev pub invariant-loop : goal.invariant-loop
invariant-loop g l = record {
  next : l.next.items ≡ take l.counter (into_iter_items l.fn.pieces);
  left : into_iter_items l.pieces ≡ drop l.counter (into_iter_items l.fn.pieces);
  count : vec_len l.next ≡ l.counter;
  room : l.count ≤ vec_capacity l.next;
  enough : l.count ≤ length (into_iter_items l.fn.pieces);
}
