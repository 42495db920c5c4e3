use Rattle.std.proofs.Common.{◌≡◌, ◌++◌, length}
use Rattle.bt_keycode.specs.Codes.{escaped}
use Rattle.bt_keycode.proofs.code_builder.CodeBuilder.add_bytes.Given as goal

-- what was added, followed by the remaining bytes
abbrev pub invariant-loop-part : goal.invariant-loop-part
invariant-loop-part l = l.fn.self ++ escaped l.bytes ≡ l.self ++ escaped l.rest

abbrev pub decreases-loop-part : goal.decreases-loop-part
decreases-loop-part l = length l.rest
