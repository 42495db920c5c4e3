use Rattle.bt_portions.proofs.portion_visits.is_one_portion.Given as goal

-- any node that is reached will do
abbrev pub invariant-loop : goal.invariant-loop
invariant-loop g l = Unit {0}
