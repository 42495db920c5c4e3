use Rattle.std.proofs.Common.{◌≡◌, ◌++◌, Some, map}
use Rattle.std.specs.Vec.Iter.{into_iter_items}
use Rattle.bt_packed.proofs.pieces.all_packets.Given as goal

-- the packets so far, and then the readings that are left
abbrev pub invariant-loop-reading : goal.invariant-loop-reading
invariant-loop-reading l = l.fn.readings.items ≡ map Some l.packets.items ++ into_iter_items l.reading-iterator
