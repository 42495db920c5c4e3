use Rattle.std.proofs.Common.{◌≡◌, ◌∙◌, ap, map}
use Rattle.std.proofs.lemmas.Result.{IfOk-weaker}
use Rattle.bt_script.specs.Commands.{items_of}
use Rattle.bt_script.specs.Lines.{lines}
use Rattle.bt_script.proofs.LinePieces.{items-pieces, joined}
use Rattle.bt_script.proofs.line_pieces.read_pieces.Goals as goal

pub returns : goal.returns
returns g c =
    let pieces = c.in_ok-pieces.pieces.items in
    let read : c.in_ok-read.read.items ≡ map (λ piece. items_of (lines piece.now)) pieces = c.in_ok-read.ensures.values (λ piece. items_of (lines piece.now)) (λ job d is. is) in
    IfOk-weaker c.joined_items.result _ _ (λ items is. is ∙ ap joined read ∙ items-pieces (λ piece. lines piece.now) pieces ∙ ap items_of c.in_ok-pieces.ensures) c.joined_items.ensures
