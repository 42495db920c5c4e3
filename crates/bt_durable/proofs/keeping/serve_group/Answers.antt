use Rattle.std.proofs.Common.{[], List, ℕ, arith, subst, sym}
use Rattle.bt_journal.specs.Stores.{disk_of, head_in, state_in}
use Rattle.bt_durable.specs.Inputs.{ReadsGroup}
use Rattle.bt_durable.proofs.Arriving.{none_is_first}
use Rattle.bt_durable.proofs.Faults.{on_err}
use Rattle.bt_durable.proofs.RepliedParts.{ending_stopped, group_served, group_stopped, kept_first, stopped_none}
use Rattle.bt_durable.proofs.keeping.serve_group.Goals as goal

pub returns-in_err-rest-clause-stopped : goal.returns-in_err-rest-clause-stopped
returns-in_err-rest-clause-stopped g c =
    let d = g.D.Disk in
    let s = g.S.Service in
    let store = c.args.store.now in
    let stood = c.standing.ensures c.requires.opened in
    on_err c.from_residual.result (
      [],
      [],
      none_is_first c.args.most (g.I.Read.remaining c.args.input),
      stopped_none s.after s.reply s.blank d.moment d.outcome d.outcome_since g.W.Write.contents store (λ file now. g.met.D.Disk.only_now (disk_of store) file now)
          (λ arrived. kept_first s.after s.reply s.blank d.contents d.outcome (head_in store) (disk_of store) (state_in store) arrived stood) c.args.output.now (omega arith) [],
    )

pub returns-in_err-reply_to_group-clause-stopped : goal.returns-in_err-reply_to_group-clause-stopped
returns-in_err-reply_to_group-clause-stopped g c =
    let d = g.D.Disk in
    let s = g.S.Service in
    let known = g.I.Read.remaining c.args.input in
    let received = c.in_ok-rest.ensures.group in
    let read = subst (λ (l : List ℕ). ReadsGroup c.args.most known received.0 l) (sym {A = List ℕ} c.as_slice.ensures.value) received.1 in
    on_err c.from_residual-in_err-reply_to_group.result
    (group_stopped s.after s.reply s.blank d.moment d.outcome d.outcome_since g.W.Write.contents c.args.store.now c.reply_to_group.new.store c.reply_to_group.new.store c.args.output.now
    c.reply_to_group.new.output c.reply_to_group.new.output c.args.most known received.0 received.0 c.as_slice.result.now read c.in_err-reply_to_group.ensures.stopped)

pub returns-in_err-more-clause-stopped : goal.returns-in_err-more-clause-stopped
returns-in_err-more-clause-stopped g c =
    let d = g.D.Disk in
    let s = g.S.Service in
    let known = g.I.Read.remaining c.args.input in
    let received = c.in_ok-rest.ensures.group in
    let left = g.I.Read.remaining c.in_ok-rest.rest in
    let read = subst (λ (l : List ℕ). ReadsGroup c.args.most known received.0 l) (sym {A = List ℕ} c.as_slice.ensures.value) received.1 in
    let store = c.reply_to_group.new.store in
    on_err c.from_residual-in_err-more.result
    (ending_stopped s.after s.reply s.blank d.moment d.outcome d.outcome_since g.W.Write.contents c.args.store.now store store c.args.output.now
    c.reply_to_group.new.output c.reply_to_ending.new.output c.args.most known received.0 left c.as_slice.result.now read c.in_ok-reply_to_group.ensures.replied
    (c.in_err-more.ensures.stopped c.args.most received.0 left received.3))

pub returns-clause-replied : goal.returns-clause-replied
returns-clause-replied g c =
    let d = g.D.Disk in
    let s = g.S.Service in
    let known = g.I.Read.remaining c.args.input in
    let received = c.in_ok-rest.ensures.group in
    let left = g.I.Read.remaining c.in_ok-rest.rest in
    let read = subst (λ (l : List ℕ). ReadsGroup c.args.most known received.0 l) (sym {A = List ℕ} c.as_slice.ensures.value) received.1 in
    let store = c.reply_to_group.new.store in
    group_served s.after s.reply s.blank d.moment d.outcome d.outcome_since g.W.Write.contents c.args.store.now store store c.args.output.now
    c.reply_to_group.new.output c.reply_to_ending.new.output c.args.most known received.0 left c.as_slice.result.now read c.in_ok-reply_to_group.ensures.replied c.in_ok-more.more
    (c.in_ok-more.ensures.replied c.args.most received.0 left received.3)

pub reply_to_ending-requires-clause-refused : goal.reply_to_ending-requires-clause-refused
reply_to_ending-requires-clause-refused g c = c.in_ok-rest.ensures.group.2

pub reply_to_ending-requires-clause-opened : goal.reply_to_ending-requires-clause-opened
reply_to_ending-requires-clause-opened g c = c.in_ok-reply_to_group.ensures.replied.opened
