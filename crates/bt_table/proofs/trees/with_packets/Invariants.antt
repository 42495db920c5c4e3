use Rattle.std.proofs.Common.{◌≡◌, ◌+◌, ◌≤◌, ◌++◌, length, vec_capacity, vec_len}
use Rattle.std.specs.List.{zip}
use Rattle.std.specs.Vec.Iter.{into_iter_items}
use Rattle.bt_table.proofs.trees.with_packets.Given as goal

-- there is a packet for each tree that is left, and space for both
abbrev pub invariant-loop-tree : goal.invariant-loop-tree
invariant-loop-tree l = record {
  same : length (into_iter_items l.packets) ≡ length (into_iter_items l.tree-iterator);
  so_far : zip l.fn.trees.items l.fn.packets.items ≡ l.pairs.items ++ zip (into_iter_items l.tree-iterator) (into_iter_items l.packets);
  room : vec_len l.pairs + length (into_iter_items l.tree-iterator) ≤ vec_capacity l.pairs;
}
