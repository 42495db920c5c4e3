use Rattle.std.proofs.Common.{◌≡◌, ◌++◌, length}
use Rattle.bt_form.specs.Plans.{planned, total}
use Rattle.bt_flush.proofs.planning.plan.Given as goal

-- the places so far come before those that are planned for the rest
abbrev pub invariant-loop-place : goal.invariant-loop-place
invariant-loop-place l = record {
  long : length l.rest.items ≡ length l.loads;
  so_far : l.places.items ++ planned l.rest.items l.capacity ≡ planned l.loads l.capacity;
}

abbrev pub decreases-loop-place : goal.decreases-loop-place
decreases-loop-place l = total l.rest.items
