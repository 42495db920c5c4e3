use Rattle.std.proofs.Common.{◌≡◌, ◌++◌, length}
use Rattle.bt_keycode.specs.Codes.{code_of}
use Rattle.bt_keycode.proofs.code.encode_each.Given as goal

-- the codes that were added, followed by those of the remaining values
abbrev pub invariant-loop-value : goal.invariant-loop-value
invariant-loop-value l = code_of l.fn.values ≡ l.code ++ code_of l.rest

abbrev pub decreases-loop-value : goal.decreases-loop-value
decreases-loop-value l = length l.rest
