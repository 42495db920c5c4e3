use Rattle.std.proofs.Common.{◌≡◌, ◌+◌, drop}
use Rattle.bt_form.specs.Plans.{total}
use Rattle.bt_flush.proofs.planning.are_within.Given as goal

-- the rest of the capacity is for the loads from here on
abbrev pub invariant-loop-load : goal.invariant-loop-load
invariant-loop-load l = l.left + total l.loads ≡ l.fn.capacity + total (drop l.load-index l.loads)
