use Rattle.std.proofs.Common.{◌≡◌, ◌++◌, drop}
use Rattle.std.specs.List.{flat_map}
use Rattle.bt_plan.specs.Pieces.{holes}
use Rattle.bt_plan.specs.DepthBounds.{depth_bound}
use Rattle.bt_gather.specs.inside.Views.{node_places}
use Rattle.bt_gather.proofs.hole_places.+add_places.Given as goal

-- the holes below the children so far, and those below the others
abbrev pub invariant-loop-child : goal.invariant-loop-child
invariant-loop-child g l = node_places l.places.items ++ flat_map holes (drop l.child-index l.child-items) ≡ node_places l.fn.places.items ++ holes l.fn.node

abbrev pub decreases-add_places : goal.decreases-add_places
decreases-add_places g l = depth_bound l.node.now
