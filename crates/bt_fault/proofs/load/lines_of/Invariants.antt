use Rattle.std.proofs.Common.{◌≡◌, ◌++◌, length}
use Rattle.bt_fault.proofs.load.lines_of.Given as goal

-- the lines so far come before those that are left
abbrev pub invariant-loop-line : goal.invariant-loop-line
invariant-loop-line l = l.lines.items ++ l.records ≡ l.fn.records

abbrev pub decreases-loop-line : goal.decreases-loop-line
decreases-loop-line l = length l.records
