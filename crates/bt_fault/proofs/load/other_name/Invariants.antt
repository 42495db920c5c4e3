use Rattle.std.proofs.Common.{◌≡◌, drop}
use Rattle.bt_fault.specs.Calls.{name_problem}
use Rattle.bt_fault.specs.Reasons.{first_problem}
use Rattle.bt_fault.proofs.load.other_name.Given as goal

-- the result depends only on the names from here on
abbrev pub invariant-loop-place : goal.invariant-loop-place
invariant-loop-place l = first_problem name_problem 0 l.columns l.names ≡ first_problem name_problem l.place (drop l.place l.columns) (drop l.place l.names)
