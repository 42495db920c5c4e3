use Rattle.std.proofs.Common.{◌≡◌, drop}
use Rattle.bt_journal.specs.Frames.{sum_from}
use Rattle.bt_journal.proofs.frame.sum_after.Given as goal

abbrev pub invariant-loop-byte : goal.invariant-loop-byte
invariant-loop-byte l = sum_from l.sum (drop l.byte-index l.bytes) ≡ sum_from l.fn.seed l.bytes
