use Rattle.std.proofs.Common.{◌≡◌, ◌∙◌, ◌∷◌, [], List, ℕ, ap, arith, subst, sym}
use Rattle.bt_script.specs.Streams.{Took, TookPrefix}
use Rattle.bt_script.proofs.offered.Streams.{Took-nil}
use Rattle.bt_frame.specs.Frames.{frame}
use Rattle.bt_frame.specs.Services.{answers, reply_frame}
use Rattle.bt_frame.proofs.offered.Exchanges.{answers-one}
use Rattle.bt_journal.specs.Stores.{disk_of, head_in, state_in}
use Rattle.bt_durable.proofs.Faults.{on_err}
use Rattle.bt_durable.proofs.RepliedParts.{kept_first, replied_one, stopped_one}
use Rattle.bt_durable.proofs.replying.reply_to_other.Goals as goal

pub returns-in_err-reply-clause-stopped : goal.returns-in_err-reply-clause-stopped
returns-in_err-reply-clause-stopped g c =
    let d = g.D.Disk in
    let s = g.S.Service in
    let store = c.args.store.now in
    let stood = c.standing.ensures c.requires.opened in
    λ payload. on_err c.from_residual.result
    (stopped_one s.after s.reply s.blank d.moment d.outcome d.outcome_since g.W.Write.contents store (λ file left. g.met.D.Disk.only_now (disk_of store) file left)
    (λ arrived. kept_first s.after s.reply s.blank d.contents d.outcome (head_in store) (disk_of store) (state_in store) arrived stood) c.args.arrival payload
    (g.met.S.Service.same (state_in store) c.args.arrival payload (g.met.S.Service.idle (state_in store) c.args.arrival payload c.requires.refused))
    c.args.output.now c.args.output.now (0, Took-nil g.W.Write.contents c.args.output.now (omega arith)))

pub returns-in_err-send-clause-stopped : goal.returns-in_err-send-clause-stopped
returns-in_err-send-clause-stopped g c =
    let d = g.D.Disk in
    let s = g.S.Service in
    let held = g.W.Write.contents in
    let store = c.args.store.now in
    let stood = c.standing.ensures c.requires.opened in
    λ payload.
    let text : frame c.in_ok-reply.reply.kind c.as_slice.result.now ≡ answers s.after s.reply (state_in store) ((c.args.arrival, payload) ∷ []) =
    ap (frame c.in_ok-reply.reply.kind) c.as_slice.ensures.value ∙ ap (λ (p : ℕ × List ℕ). frame p.0 p.1) (c.in_ok-reply.ensures payload)
    ∙ ap (λ (state : g.row.S.Denot). reply_frame s.after s.reply state (c.args.arrival, payload)) c.machine.ensures
    ∙ sym (answers-one s.after s.reply (state_in store) (c.args.arrival, payload)) in
    on_err c.from_residual-in_err-send.result
    (stopped_one s.after s.reply s.blank d.moment d.outcome d.outcome_since held store (λ file left. g.met.D.Disk.only_now (disk_of store) file left)
    (λ arrived. kept_first s.after s.reply s.blank d.contents d.outcome (head_in store) (disk_of store) (state_in store) arrived stood) c.args.arrival payload
    (g.met.S.Service.same (state_in store) c.args.arrival payload (g.met.S.Service.idle (state_in store) c.args.arrival payload c.requires.refused))
    c.args.output.now c.send.new.writer (subst (λ (l : List ℕ). TookPrefix held c.args.output.now c.send.new.writer l) text c.in_err-send.ensures.err))

pub returns-clause-replied : goal.returns-clause-replied
returns-clause-replied g c =
    let d = g.D.Disk in
    let s = g.S.Service in
    let held = g.W.Write.contents in
    let store = c.args.store.now in
    let stood = c.standing.ensures c.requires.opened in
    λ payload.
    let text : frame c.in_ok-reply.reply.kind c.as_slice.result.now ≡ answers s.after s.reply (state_in store) ((c.args.arrival, payload) ∷ []) =
    ap (frame c.in_ok-reply.reply.kind) c.as_slice.ensures.value ∙ ap (λ (p : ℕ × List ℕ). frame p.0 p.1) (c.in_ok-reply.ensures payload)
    ∙ ap (λ (state : g.row.S.Denot). reply_frame s.after s.reply state (c.args.arrival, payload)) c.machine.ensures
    ∙ sym (answers-one s.after s.reply (state_in store) (c.args.arrival, payload)) in
    replied_one s.after s.reply s.blank d.moment d.outcome d.outcome_since held store (λ file left. g.met.D.Disk.only_now (disk_of store) file left)
    (λ arrived. kept_first s.after s.reply s.blank d.contents d.outcome (head_in store) (disk_of store) (state_in store) arrived stood) c.args.arrival payload
    (g.met.S.Service.same (state_in store) c.args.arrival payload (g.met.S.Service.idle (state_in store) c.args.arrival payload c.requires.refused))
    c.args.output.now c.send.new.writer c.requires.opened (subst (λ (l : List ℕ). Took held c.args.output.now c.send.new.writer l) text c.in_ok-send.ensures.ok)
