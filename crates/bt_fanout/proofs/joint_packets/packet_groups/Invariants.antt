use Rattle.std.proofs.Common.{◌≡◌, [], fold, length, map, replicate}
use Rattle.std.specs.List.{All}
use Rattle.std.specs.Vec.Iter.{into_iter_items}
use Rattle.bt_fanout.specs.inside.PacketGroups.{with_next}
use Rattle.bt_fanout.proofs.joint_packets.packet_groups.Given as goal

-- the groups so far, and the lists that are left
abbrev pub invariant-loop-list : goal.invariant-loop-list
invariant-loop-list l =
    let left = into_iter_items l.list-iterator in
    record {
      lengths : All (λ list. length list ≡ l.count) left;
      same : length l.groups.items ≡ l.count;
      groups : fold with_next (map (λ group. group.items) l.groups.items) left ≡ fold with_next (replicate l.count []) l.fn.lists.items;
    }
