use Rattle.std.proofs.Common.{rules, ◌≡◌, ◌∙◌, List, ℕ, ap, subst}
use Rattle.bt_script.specs.Streams.{TookPrefix}
use Rattle.bt_frame.specs.Frames.{frame}
use Rattle.bt_frame.specs.Receipts.{Receives}
use Rattle.bt_frame.specs.Services.{reply_frame}
use Rattle.bt_frame.proofs.service.exchange_next.Goals as goal

-- a part of the reply is written
pub returns-in_err-send-clause-write : goal.returns-in_err-send-clause-write
returns-in_err-send-clause-write g c = λ _.
    let received = rw c.in-Some.is at c.in_ok-arrival.ensures.arrival in
    let payload = c.as_slice.result.now in
    let same : c.receive.new.payload.items ≡ payload = search rules in
    let text : frame c.in_ok-reply.reply.kind c.as_slice-2.result.now ≡ reply_frame g.S.Service.after g.S.Service.reply c.args.service.now (c.in-Some.arrival, payload) =
    ap (frame c.in_ok-reply.reply.kind) c.as_slice-2.ensures.value ∙ ap (λ (p : ℕ × List ℕ). frame p.0 p.1) c.in_ok-reply.ensures.reply in (
      c.in_err-send.ensures.fault.1,
      (
        c.in-Some.arrival,
        payload,
        subst (λ (l : List ℕ). Receives g.R.Read.remaining c.args.reader.now c.receive.new.reader c.args.most c.in-Some.arrival l) same received,
        subst (λ (l : List ℕ). TookPrefix g.W.Write.contents c.args.writer.now c.send.new.writer l) text c.in_err-send.ensures.err,
      ),
    )
