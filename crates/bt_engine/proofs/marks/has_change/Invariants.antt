use Rattle.std.proofs.Common.{◌≡◌, drop}
use Rattle.bt_engine.specs.Payloads.{has_change}
use Rattle.bt_engine.proofs.marks.has_change.Given as goal

-- the marks so far have no change
abbrev pub invariant-loop-mark : goal.invariant-loop-mark
invariant-loop-mark l = has_change (drop l.mark-index l.marks) ≡ has_change l.marks
