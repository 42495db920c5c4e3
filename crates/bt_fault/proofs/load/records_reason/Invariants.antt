use Rattle.std.proofs.Common.{◌≡◌, ◌+◌, drop, fold}
use Rattle.bt_fault.specs.Calls.{record_reasons}
use Rattle.bt_fault.specs.Reasons.{lower_reason, lowest_reason}
use Rattle.bt_fault.proofs.load.records_reason.Given as goal

-- the reason so far is that of the records before this one
abbrev pub invariant-loop-place : goal.invariant-loop-place
invariant-loop-place l = lowest_reason (record_reasons l.columns 1 l.lines) ≡ fold lower_reason l.found (record_reasons l.columns (l.place + 1) (drop l.place l.lines))
