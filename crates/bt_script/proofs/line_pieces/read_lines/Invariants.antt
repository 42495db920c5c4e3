use Rattle.std.proofs.Common.{List, ℕ, length, ◌-◌, ◌≡◌, ◌≤◌, ◌++◌, drop}
use Rattle.bt_script.specs.Commands.{items_of}
use Rattle.bt_script.specs.Lines.{lines}
use Rattle.bt_script.proofs.line_pieces.read_lines.Given as goal

-- the messages are those of the lines so far
abbrev pub invariant-loop-at : goal.invariant-loop-at
invariant-loop-at l = record {
  within : l.at ≤ length l.text;
  so_far : (block : List (List ℕ)) × (l.items ≡ items_of block) × (lines l.text ≡ block ++ lines (drop l.at l.text));
}

abbrev pub decreases-loop-at : goal.decreases-loop-at
decreases-loop-at l = length l.text - l.at
