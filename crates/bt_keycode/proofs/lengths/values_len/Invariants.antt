use Rattle.std.proofs.Common.{◌≡◌, ◌≤◌, ◌+◌, length}
use Rattle.bt_keycode.specs.Codes.{code_of}
use Rattle.bt_keycode.specs.Lengths.{byte_weight, code_length, most_weight}
use Rattle.bt_keycode.proofs.lengths.values_len.Given as goal

-- what was counted, and the codes of the remaining values
abbrev pub invariant-loop-value : goal.invariant-loop-value
invariant-loop-value l = record {
  total : byte_weight (l.weight + length (code_of l.rest)) ≡ code_length l.fn.values;
  bound : l.weight ≤ most_weight;
}

abbrev pub decreases-loop-value : goal.decreases-loop-value
decreases-loop-value l = length l.rest
