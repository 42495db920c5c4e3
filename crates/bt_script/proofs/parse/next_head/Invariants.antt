use Rattle.std.proofs.Common.{length, ◌-◌, ◌≡◌, ◌≤◌, drop}
use Rattle.bt_script.specs.Commands.{commands}
use Rattle.bt_script.proofs.parse.next_head.Given as goal

-- only blank lines were skipped
abbrev pub invariant-loop-place : goal.invariant-loop-place
invariant-loop-place l = record {
  past : l.at ≤ l.place;
  same : commands (drop l.at l.script) ≡ commands (drop l.place l.script);
}

abbrev pub decreases-loop-place : goal.decreases-loop-place
decreases-loop-place l = length l.script - l.place
