use Rattle.std.proofs.Common.{◌≡◌, ◌++◌}
use Rattle.std.specs.List.{flat_map}
use Rattle.bt_script.specs.Lines.{lines}
use Rattle.bt_script.proofs.line_pieces.pieces_of_lines.Given as goal

-- the lines of the pieces so far precede those of the rest
abbrev pub invariant-loop-place : goal.invariant-loop-place
invariant-loop-place l = flat_map (λ piece. lines piece.now) l.pieces.items ++ lines l.rest ≡ lines l.text
