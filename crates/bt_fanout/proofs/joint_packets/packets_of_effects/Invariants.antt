use Rattle.std.proofs.Common.{◌≡◌, ◌++◌, drop, map}
use Rattle.bt_fanout.specs.Targets.{packet_of}
use Rattle.bt_fanout.proofs.joint_packets.packets_of_effects.Given as goal

-- the packets so far come before those of the indexes from here on
abbrev pub invariant-loop-index : goal.invariant-loop-index
invariant-loop-index l = map (packet_of l.effects) l.indexes ≡ l.packets.items ++ map (packet_of l.effects) (drop l.index-index l.indexes)
