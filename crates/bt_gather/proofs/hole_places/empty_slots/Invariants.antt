use Rattle.std.proofs.Common.{◌≡◌, None, replicate}
use Rattle.bt_gather.proofs.hole_places.empty_slots.Given as goal

-- the slots so far
abbrev pub invariant-loop : goal.invariant-loop
invariant-loop g l = l.slots.items ≡ replicate l.counter None
