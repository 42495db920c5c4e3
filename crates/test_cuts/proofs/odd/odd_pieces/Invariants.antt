use Rattle.std.proofs.Common.{◌≡◌, None, drop, map}
use Rattle.std.specs.FinMap.{find}
use Rattle.std.specs.List.{AllByRecursion as Each}
use Rattle.bt_gather.specs.Views.{pieces_of}
use Rattle.bt_message.specs.Meanings.{meaning_of}
use Rattle.bt_plan.specs.Pieces.{node_place_cmp}
use Rattle.bt_plan.specs.Views.{node_place}
use Rattle.test_cuts.specs.Turns.{AreRun}
use Rattle.test_cuts.proofs.odd.odd_pieces.Given as goal

-- the results of the jobs
abbrev pub invariant-loop-number : goal.invariant-loop-number
invariant-loop-number g l = AreRun (meaning_of g.V.Merge.terms) l.shape l.fn.jobs.items (pieces_of l.pieces.items) (map node_place l.left.items)

-- there is no piece at the places so far
abbrev pub invariant-loop-place : goal.invariant-loop-place
invariant-loop-place g l =
    Each (λ p. find node_place_cmp p (pieces_of l.pieces.items) ≡ None) (map node_place (drop l.place-index l.place-items))
    → Each (λ p. find node_place_cmp p (pieces_of l.pieces.items) ≡ None) (map node_place l.place-items)
