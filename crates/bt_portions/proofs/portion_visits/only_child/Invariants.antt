use Rattle.std.proofs.Common.{◌-◌, ◌<◌, ◌≤◌, length}
use Rattle.bt_form.specs.Walks.{children_of}
use Rattle.bt_portions.proofs.portion_visits.only_child.Given as goal

-- the child that is looked for is none before `place` and none after `high`
abbrev pub invariant-halving : goal.invariant-halving
invariant-halving g l = (l.place ≤ l.high) × (l.high ≤ l.last) × (l.last < length (children_of l.node))

abbrev pub decreases-halving : goal.decreases-halving
decreases-halving g l = l.high - l.place
