use Rattle.std.proofs.Common.{◌≡◌, false, replicate}
use Rattle.bt_gather.proofs.hole_places.no_marks.Given as goal

-- the marks so far
abbrev pub invariant-loop : goal.invariant-loop
invariant-loop l = l.marks.items ≡ replicate l.counter false
