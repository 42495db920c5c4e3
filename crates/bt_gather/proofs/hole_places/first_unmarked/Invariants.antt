use Rattle.std.proofs.Common.{◌≡◌, drop}
use Rattle.bt_gather.specs.inside.Marks.{first_unmarked}
use Rattle.bt_gather.specs.inside.Views.{node_places}
use Rattle.bt_gather.proofs.hole_places.first_unmarked.Given as goal

-- the result depends on the holes from here on
abbrev pub invariant-loop-hole : goal.invariant-loop-hole
invariant-loop-hole l = first_unmarked (node_places l.places) l.marks ≡ first_unmarked (node_places (drop l.hole l.places)) (drop l.hole l.marks)
