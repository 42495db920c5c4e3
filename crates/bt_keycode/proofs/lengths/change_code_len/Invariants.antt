use Rattle.std.proofs.Common.{◌≡◌, ◌≤◌, ◌+◌, length}
use Rattle.std.specs.List.{sum_by}
use Rattle.bt_keycode.specs.Lengths.{byte_weight, change_code_length, most_weight, op_length}
use Rattle.bt_keycode.proofs.lengths.change_code_len.Given as goal

-- what was counted, and the bytes of the remaining operations
abbrev pub invariant-loop-argument : goal.invariant-loop-argument
invariant-loop-argument l = record {
  total : byte_weight (l.weight + sum_by op_length l.rest) ≡ change_code_length l.change;
  bound : l.weight ≤ most_weight;
}

abbrev pub decreases-loop-argument : goal.decreases-loop-argument
decreases-loop-argument l = length l.rest
