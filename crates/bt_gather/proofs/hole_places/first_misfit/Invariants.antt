use Rattle.std.proofs.Common.{drop}
use Rattle.bt_gather.specs.Views.{pieces_of}
use Rattle.bt_gather.specs.inside.Views.{node_places}
use Rattle.bt_gather.proofs.SeenPieces.{Marking}
use Rattle.bt_gather.proofs.hole_places.first_misfit.Given as goal

-- the holes that the pieces so far filled are marked, and the result depends on the other pieces
abbrev pub invariant-loop-piece : goal.invariant-loop-piece
invariant-loop-piece g l = Marking (node_places l.places) (pieces_of l.pieces) l.marks.items (pieces_of (drop l.piece-index l.pieces))
