use Rattle.std.proofs.Common.{◌∷◌, [], arith}
use Rattle.bt_journal.specs.Stores.{disk_of, head_in, state_in}
use Rattle.bt_durable.proofs.Arriving.{continue_after, one_is_first}
use Rattle.bt_durable.proofs.Faults.{on_err}
use Rattle.bt_durable.proofs.RepliedParts.{kept_first, replied_none}
use Rattle.bt_durable.proofs.keeping.reply_to_ending.Goals as goal

pub returns-in-More-clause-replied : goal.returns-in-More-clause-replied
returns-in-More-clause-replied g c =
    let d = g.D.Disk in
    let s = g.S.Service in
    let store = c.args.store.now in
    let stood = c.standing.ensures c.requires.opened in
    λ most known left ending. (
      [],
      rw c.in-More.is at ending,
      replied_none s.after s.reply s.blank d.moment d.outcome d.outcome_since g.W.Write.contents store (λ file now. g.met.D.Disk.only_now (disk_of store) file now)
          (λ arrived. kept_first s.after s.reply s.blank d.contents d.outcome (head_in store) (disk_of store) (state_in store) arrived stood) c.args.output.now (omega arith)
          c.requires.opened,
    )

pub returns-in-End-clause-replied : goal.returns-in-End-clause-replied
returns-in-End-clause-replied g c =
    let d = g.D.Disk in
    let s = g.S.Service in
    let store = c.args.store.now in
    let stood = c.standing.ensures c.requires.opened in
    λ most known left ending. (
      [],
      rw c.in-End.is at ending,
      replied_none s.after s.reply s.blank d.moment d.outcome d.outcome_since g.W.Write.contents store (λ file now. g.met.D.Disk.only_now (disk_of store) file now)
          (λ arrived. kept_first s.after s.reply s.blank d.contents d.outcome (head_in store) (disk_of store) (state_in store) arrived stood) c.args.output.now (omega arith)
          c.requires.opened,
    )

pub returns-in_ok-reply_to_other-in-Other-clause-replied : goal.returns-in_ok-reply_to_other-in-Other-clause-replied
returns-in_ok-reply_to_other-in-Other-clause-replied g c = λ most known left ending.
    let read = rw c.in-Other.is at ending in (
      (c.in-Other.arrival, read.0) ∷ [],
      continue_after most known left c.in-Other.arrival read.0 read.1 c.is_last.result c.is_last.ensures.last c.is_last.ensures.more,
      c.in_ok-reply_to_other-in-Other.ensures.replied read.0,
    )

pub returns-in_err-reply_to_other-in-Other-clause-stopped : goal.returns-in_err-reply_to_other-in-Other-clause-stopped
returns-in_err-reply_to_other-in-Other-clause-stopped g c =
    on_err c.from_residual.result (λ most known left ending.
    let read = rw c.in-Other.is at ending in (
      (c.in-Other.arrival, read.0) ∷ [],
      one_is_first most known left c.in-Other.arrival read.0 read.1,
      c.in_err-reply_to_other-in-Other.ensures.stopped read.0,
    ))

pub reply_to_other-requires-clause-refused : goal.reply_to_other-requires-clause-refused
reply_to_other-requires-clause-refused g c = rw c.in-Other.is at c.requires.refused
