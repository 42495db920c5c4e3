use Rattle.std.proofs.Common.{◌≡◌, ◌++◌, length, map}
use Rattle.std.specs.Vec.Iter.{into_iter_items}
use Rattle.bt_fanout.specs.inside.PacketGroups.{with_next}
use Rattle.bt_fanout.proofs.joint_packets.with_packets.Given as goal

-- the groups so far, and then those that are left with the packets that are left
abbrev pub invariant-loop-group : goal.invariant-loop-group
invariant-loop-group l = record {
  same : length (into_iter_items l.packets) ≡ length (into_iter_items l.group-iterator);
  groups : map (λ group. group.items) l.more.items ++ with_next (map (λ group. group.items) (into_iter_items l.group-iterator)) (into_iter_items l.packets)
      ≡ with_next (map (λ group. group.items) l.fn.groups.items) l.fn.packets.items;
}
