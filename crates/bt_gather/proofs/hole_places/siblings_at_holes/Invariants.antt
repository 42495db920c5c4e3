use Rattle.bt_gather.specs.Views.{pieces_of}
use Rattle.bt_gather.specs.inside.Views.{node_places}
use Rattle.bt_gather.proofs.PiecesAtHoles.{SlotsSoFar}
use Rattle.bt_gather.proofs.hole_places.siblings_at_holes.Given as goal

-- the pieces so far are in their slots
abbrev pub invariant-loop-place : goal.invariant-loop-place
invariant-loop-place g l = SlotsSoFar (node_places l.places) (pieces_of l.fn.pieces.items) l.slots.items (pieces_of l.place-iterator.rest.items)
