use Rattle.std.proofs.Common.{List, ℕ, [], ◌∷◌, ◌++◌, ◌∙◌, sym, ap}
use Rattle.std.proofs.lemmas.List.{append-nil}
use Rattle.std.specs.List.{flat_map}
use Rattle.bt_script.specs.Lines.{lines}
use Rattle.bt_script.proofs.LinePieces.{pieces-more}
use Rattle.bt_script.proofs.line_pieces.pieces_of_lines.Goals as goal

pub loop-place-preserved : goal.loop-place-preserved
loop-place-preserved c =
    let split = c.split_lines in
    let pieces = c.loop-place.pieces.items in
    let others = lines split.result.1.now in
    ap (λ ps. flat_map (λ piece. lines piece.now) ps ++ others) c.in_ok-push.ensures.items
    ∙ pieces-more (λ piece. lines piece.now) pieces split.result.0 others
    ∙ ap (λ (ls : List (List ℕ)). flat_map (λ piece. lines piece.now) pieces ++ ls) (sym split.ensures)
    ∙ c.loop-place.invariant

pub returns : goal.returns
returns c =
    let pieces = c.loop-place.pieces.items in
    let rest = c.loop-place.rest in
    ap (λ ps. flat_map (λ piece. lines piece.now) ps) c.in_ok-push-2.ensures.items
    ∙ sym (append-nil (flat_map (λ piece. lines piece.now) (pieces ++ rest ∷ [])))
    ∙ pieces-more (λ piece. lines piece.now) pieces rest []
    ∙ ap (λ (ls : List (List ℕ)). flat_map (λ piece. lines piece.now) pieces ++ ls) (append-nil (lines rest.now))
    ∙ c.loop-place.invariant
