use Rattle.std.proofs.Common.{◌≡◌, ◌+◌, length}
use Rattle.bt_keycode.specs.Codes.{escaped}
use Rattle.bt_keycode.proofs.lengths.bytes_len.Given as goal

-- what was counted, and the code of the remaining bytes
abbrev pub invariant-loop-part : goal.invariant-loop-part
invariant-loop-part l = l.len + length (escaped l.rest) ≡ 2 + length (escaped l.bytes)

abbrev pub decreases-loop-part : goal.decreases-loop-part
decreases-loop-part l = length l.rest
