use Rattle.std.proofs.Common.{◌≡◌, [], map, replicate}
use Rattle.bt_fanout.proofs.joint_packets.empty_groups.Given as goal

abbrev pub invariant-loop : goal.invariant-loop
invariant-loop l = map (λ group. group.items) l.groups.items ≡ replicate l.counter []
