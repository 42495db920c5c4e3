use Rattle.std.proofs.Common.{◌≡◌, drop}
use Rattle.bt_script.specs.Streams.{has_failed}
use Rattle.bt_shell.specs.inside.Pieces.{text_of_pieces}
use Rattle.bt_shell.proofs.Written.{HasWritten}
use Rattle.bt_shell.proofs.reply_text.write_pieces.Given as goal

-- the pieces so far are written, and the others follow
abbrev pub invariant-loop-piece : goal.invariant-loop-piece
invariant-loop-piece g l = record {
  healthy : has_failed l.writer ≡ has_failed l.fn.writer;
  so_far : HasWritten g.W.Write.contents l.fn.writer l.writer (text_of_pieces l.pieces) (text_of_pieces (drop l.piece-index l.pieces));
}
