use Rattle.std.proofs.Common.{[], arith, append-nil, subst, sym}
use Rattle.std.proofs.lemmas.Result.{on_err_weaker}
use Rattle.bt_script.specs.Streams.{Took, TookPrefix}
use Rattle.bt_script.proofs.offered.Streams.{Took-nil}
use Rattle.bt_shell.specs.inside.Pieces.{text_of_pieces}
use Rattle.bt_shell.proofs.Turns.{on_err}
use Rattle.bt_shell.proofs.Written.{HasWritten, writing_begins, writing_breaks, writing_goes_on}
use Rattle.bt_shell.proofs.reply_text.ReplyText.write_to.Goals as goal

-- a prefix of the pieces before the last one
pub returns-in_err-write_pieces-clause-err : goal.returns-in_err-write_pieces-clause-err
returns-in_err-write_pieces-clause-err g c =
    let held = g.W.Write.contents in
    let old = c.args.writer.now in
    let new = c.write_pieces.new.writer in
    let all = c.args.self.now in
    let nothing : HasWritten held old old all all = writing_begins held old all (Took-nil held old (omega arith)) in
    on_err c.from_residual.result _
    (writing_breaks held old old new all all (text_of_pieces c.self.inside.pieces.items) c.self.inside.last.items nothing (sym c.self.view_is)
    (subst (λ pieces. TookPrefix held old new (text_of_pieces pieces)) c.as_slice.ensures.value c.in_err-write_pieces.ensures.err))

-- these pieces, and a prefix of the last one
pub returns-clause-err : goal.returns-clause-err
returns-clause-err g c =
    let held = g.W.Write.contents in
    let old = c.args.writer.now in
    let mid = c.write_pieces.new.writer in
    let new = c.write_text.new.writer in
    let all = c.args.self.now in
    let front = text_of_pieces c.self.inside.pieces.items in
    let last = c.self.inside.last.items in
    let nothing : HasWritten held old old all all = writing_begins held old all (Took-nil held old (omega arith)) in
    let so_far : HasWritten held old mid all last =
    writing_goes_on held old old mid all all front last nothing (sym c.self.view_is)
    (subst (λ pieces. Took held old mid (text_of_pieces pieces)) c.as_slice.ensures.value c.in_ok-write_pieces.ensures.ok) in
    on_err_weaker c.write_text.result
    (λ (prefix : TookPrefix held mid new c.as_slice-2.result.now). writing_breaks held old mid new all last last [] so_far (sym (append-nil last))
    (subst (TookPrefix held mid new) c.as_slice-2.ensures.value prefix)) c.write_text.ensures.err
