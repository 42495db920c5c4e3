use Rattle.std.proofs.Common.{◌≡◌, drop}
use Rattle.bt_fault.specs.Reasons.{first_problem, value_problem}
use Rattle.bt_fault.proofs.records.first_problem.Given as goal

-- the result depends only on the fields from here on
abbrev pub invariant-loop-place : goal.invariant-loop-place
invariant-loop-place l = first_problem value_problem 0 l.columns l.fields ≡ first_problem value_problem l.place (drop l.place l.columns) (drop l.place l.fields)
