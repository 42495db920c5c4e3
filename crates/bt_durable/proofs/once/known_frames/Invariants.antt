use Rattle.std.proofs.Common.{◌≡◌, ◌++◌, length}
use Rattle.bt_durable.specs.Once.{AreKept, known_frames}
use Rattle.bt_durable.proofs.once.known_frames.Given as goal

abbrev pub invariant-entries : goal.invariant-entries
invariant-entries l = record {
  frames : l.bytes.items ++ known_frames l.rest ≡ known_frames l.cache.entries;
  kept : AreKept l.rest → AreKept l.cache.entries;
}

abbrev pub decreases-entries : goal.decreases-entries
decreases-entries l = length l.rest
