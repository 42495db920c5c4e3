use Rattle.std.proofs.Common.{inl, sym, ◌∙◌, ap}
use Rattle.bt_journal.specs.Files.{recovered}
use Rattle.bt_journal.specs.Stores.{after_all, IsBeforeOrAfterCheckpoint}
use Rattle.bt_journal.proofs.KeptStates.{finds, stands}
use Rattle.bt_journal.proofs.SettledJournals.{settled_opens, before_call}
use Rattle.bt_journal.proofs.steps.compact.Goals as goal

pub returns-in_default-clause-kept : goal.returns-in_default-clause-kept
returns-in_default-clause-kept g c =
    let disk = g.D.Disk in
    let old = c.args.journal.now in
    let file = disk.contents old.disk in
    let settled = c.requires.settled in (
      settled.durable,
      finds g.M.Machine.after g.M.Machine.blank old.head c.compact.new.self (recovered file) file (sym (c.in_default.ensures.unchanged ∙ c.requires.same))
          (settled_opens disk.contents disk.outcome disk.is_healthy old settled),
    )

pub returns-in_default-clause-any_moment : goal.returns-in_default-clause-any_moment
returns-in_default-clause-any_moment g c =
    let disk = g.D.Disk in
    let after = g.M.Machine.after in
    let blank = g.M.Machine.blank in
    let old = c.args.journal.now in
    let was = c.args.machine.now in
    before_call disk.contents disk.outcome disk.is_healthy old c.requires.settled disk.moment disk.outcome_since g.met.D.Disk.only_now
    (IsBeforeOrAfterCheckpoint after g.M.Compact.is_compacted blank old.head was)
    (inl (stands disk.contents disk.outcome disk.is_healthy after blank old was c.requires).1)

pub returns-clause-kept : goal.returns-clause-kept
returns-clause-kept g c =
    let disk = g.D.Disk in
    let after = g.M.Machine.after in
    let blank = g.M.Machine.blank in
    let next = c.restart.new.self in
    let file = disk.contents next.disk in
    let settled = c.in_ok-restart.ensures.settled in (
      settled.durable,
      finds after blank next.head c.compact.new.self (recovered file) file
          (ap (after_all after blank) c.in_ok-restart.ensures.acknowledged ∙ ap (after blank) c.deref.ensures.value ∙ c.in-Some.ensures.payload)
          (settled_opens disk.contents disk.outcome disk.is_healthy next settled),
    )
