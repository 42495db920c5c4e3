use Rattle.std.proofs.Common.{◌≡◌, length}
use Rattle.bt_journal.specs.Files.{has_frame_after}
use Rattle.bt_journal.proofs.file_end.has_frame_after.Given as goal

abbrev pub invariant-loop-rest : goal.invariant-loop-rest
invariant-loop-rest l = has_frame_after l.seed l.rest ≡ has_frame_after l.fn.seed l.fn.bytes

abbrev pub decreases-loop-rest : goal.decreases-loop-rest
decreases-loop-rest l = length l.rest
