use Rattle.std.proofs.Common.{◌+◌, ◌∙◌, arith, drop, subst}
use Rattle.bt_script.specs.Streams.{Took, TookPrefix}
use Rattle.bt_shell.specs.inside.Pieces.{text_of_pieces}
use Rattle.bt_shell.proofs.Turns.{on_err}
use Rattle.bt_shell.proofs.Written.{piece_next, writing_breaks, writing_goes_on}
use Rattle.bt_shell.proofs.reply_text.write_pieces.Goals as goal

-- a piece is not written whole
pub returns-in_err-write_text-clause-err : goal.returns-in_err-write_text-clause-err
returns-in_err-write_text-clause-err g c =
    let held = g.W.Write.contents in
    let pieces = c.args.pieces.now in
    let piece = c.piece-item.result in
    let i = c.loop-piece.piece-index in
    let new = c.write_text.new.writer in
    on_err c.from_residual.result _
    (writing_breaks held c.args.writer.now c.loop-piece.writer new (text_of_pieces pieces) (text_of_pieces (drop i pieces)) piece.items
    (text_of_pieces (drop (i + 1) pieces)) c.loop-piece.invariant.so_far
    (piece_next pieces i piece (omega arith) c.piece-item.is) (subst (TookPrefix held c.loop-piece.writer new) c.as_slice.ensures.value c.in_err-write_text.ensures.err))

pub loop-piece-preserved : goal.loop-piece-preserved
loop-piece-preserved g c =
    let held = g.W.Write.contents in
    let pieces = c.args.pieces.now in
    let piece = c.piece-item.result in
    let i = c.loop-piece.piece-index in
    let new = c.write_text.new.writer in
    record {
      healthy = c.in_ok-write_text.ensures.healthy ∙ c.loop-piece.invariant.healthy;
      so_far = writing_goes_on held c.args.writer.now c.loop-piece.writer new (text_of_pieces pieces) (text_of_pieces (drop i pieces)) piece.items
          (text_of_pieces (drop (i + 1) pieces)) c.loop-piece.invariant.so_far
          (piece_next pieces i piece (omega arith) c.piece-item.is) (subst (Took held c.loop-piece.writer new) c.as_slice.ensures.value c.in_ok-write_text.ensures.ok);
    }
