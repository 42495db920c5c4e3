use Rattle.std.proofs.Common.{◌≡◌, ◌+◌, drop, fold}
use Rattle.bt_fault.specs.Calls.{line_reasons}
use Rattle.bt_fault.specs.Reasons.{lower_reason, lowest_reason}
use Rattle.bt_fault.proofs.batch.lines_reason.Given as goal

-- the reason so far is that of the lines before this one
abbrev pub invariant-loop-place : goal.invariant-loop-place
invariant-loop-place l = lowest_reason (line_reasons l.schema 1 l.items) ≡ fold lower_reason l.found (line_reasons l.schema (l.place + 1) (drop l.place l.items))
