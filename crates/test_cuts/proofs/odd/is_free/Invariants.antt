use Rattle.std.proofs.Common.{◌≡◌, drop}
use Rattle.std.specs.FinMap.{find}
use Rattle.bt_gather.specs.Views.{pieces_of}
use Rattle.bt_plan.specs.Pieces.{node_place_cmp}
use Rattle.bt_plan.specs.Views.{node_place}
use Rattle.test_cuts.proofs.odd.is_free.Given as goal

-- no piece so far is there
abbrev pub invariant-loop-piece : goal.invariant-loop-piece
invariant-loop-piece g l = find node_place_cmp (node_place l.place) (pieces_of l.pieces) ≡ find node_place_cmp (node_place l.place) (pieces_of (drop l.piece-index l.pieces))
