use Rattle.std.proofs.Common.{length, ◌-◌, ◌≡◌, drop, ◌++◌, ◌<◌}
use Rattle.bt_script.proofs.Machine.{HasRead}
use Rattle.bt_script.specs.Lines.{lines, text_of_lines}
use Rattle.bt_script.proofs.load.read_block_text.Given as goal

-- the lines so far precede those from this place on, and so do their bytes, unless the script ends here
abbrev pub invariant-loop-at : goal.invariant-loop-at
invariant-loop-at l = HasRead l.script l.start l.at l.closing (λ block. (lines (drop l.start l.script) ≡ block ++ lines (drop l.at l.script))
    × (l.at < length l.script → drop l.start l.script ≡ text_of_lines block ++ drop l.at l.script))

abbrev pub decreases-loop-at : goal.decreases-loop-at
decreases-loop-at l = length l.script - l.at
