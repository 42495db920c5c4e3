use Rattle.std.proofs.Common.{rules, ◌≡◌, inl, refl, sym, ◌∙◌, ap}
use Rattle.bt_journal.specs.Files.{recovered, IsBeforeOrAfter}
use Rattle.bt_journal.specs.Stores.{after_all, state_of, IsBeforeOrAfterRun}
use Rattle.bt_journal.proofs.KeptStates.{after_all-push, finds, before_or_after}
use Rattle.bt_journal.proofs.offered.Moments.{leaves_also}
use Rattle.bt_journal.proofs.SettledJournals.{settled_opens, before_call}
use Rattle.bt_journal.proofs.steps.run_payload.Goals as goal

pub returns-in_err-is_changed-clause-any_moment : goal.returns-in_err-is_changed-clause-any_moment
returns-in_err-is_changed-clause-any_moment g c =
    let disk = g.D.Disk in
    let after = g.M.Machine.after in
    let blank = g.M.Machine.blank in
    let old = c.args.journal.now in
    let file = disk.contents old.disk in
    let s = c.requires.settled in
    before_call disk.contents disk.outcome disk.is_healthy old s disk.moment disk.outcome_since g.met.D.Disk.only_now
    (IsBeforeOrAfterRun after blank old.head file c.args.payload.now)
    (inl (finds after blank old.head (state_of after blank file) (recovered file) file refl (settled_opens disk.contents disk.outcome disk.is_healthy old s)))

pub returns-in_err-append-clause-any_moment : goal.returns-in_err-append-clause-any_moment
returns-in_err-append-clause-any_moment g c =
    let disk = g.D.Disk in
    let after = g.M.Machine.after in
    let blank = g.M.Machine.blank in
    let old = c.args.journal.now in
    let file = disk.contents old.disk in
    leaves_also disk.moment disk.outcome_since old.disk _ (IsBeforeOrAfter old.head (recovered file) c.args.payload.now) (IsBeforeOrAfterRun after blank old.head file c.args.payload.now)
    c.append.ensures.any_moment (before_or_after after blank old.head file c.args.payload.now)

pub returns-clause-any_moment : goal.returns-clause-any_moment
returns-clause-any_moment g c =
    let disk = g.D.Disk in
    let after = g.M.Machine.after in
    let blank = g.M.Machine.blank in
    let old = c.args.journal.now in
    let file = disk.contents old.disk in
    leaves_also disk.moment disk.outcome_since old.disk _ (IsBeforeOrAfter old.head (recovered file) c.args.payload.now) (IsBeforeOrAfterRun after blank old.head file c.args.payload.now)
    c.append.ensures.any_moment (before_or_after after blank old.head file c.args.payload.now)

pub returns-clause-consistent : goal.returns-clause-consistent
returns-clause-consistent g c =
    let after = g.M.Machine.after in
    let blank = g.M.Machine.blank in
    let file = g.D.Disk.contents c.args.journal.now.disk in
    let payload = c.args.payload.now in
    record {
      settled = c.in_ok-append.ensures.settled;
      same = c.in_ok-is_changed.ensures.after ∙ ap (λ (m : g.row.M.Denot). after m payload) c.requires.same
          ∙ sym (after_all-push after blank (recovered file) payload) ∙ sym (ap (after_all after blank) c.in_ok-append.ensures.acknowledged);
    }

pub returns-clause-kept : goal.returns-clause-kept
returns-clause-kept g c =
    let disk = g.D.Disk in
    let after = g.M.Machine.after in
    let blank = g.M.Machine.blank in
    let file = disk.contents c.args.journal.now.disk in
    let payload = c.args.payload.now in
    let next = c.append.new.self in
    let same = c.in_ok-is_changed.ensures.after ∙ ap (λ (m : g.row.M.Denot). after m payload) c.requires.same
    ∙ sym (after_all-push after blank (recovered file) payload) ∙ sym (ap (after_all after blank) c.in_ok-append.ensures.acknowledged) in
    let settled = c.in_ok-append.ensures.settled in (
      settled.durable,
      finds after blank next.head c.run.new.self (recovered (disk.contents next.disk)) (disk.contents next.disk) (sym same)
          (settled_opens disk.contents disk.outcome disk.is_healthy next settled),
    )

pub returns-then-not-is_changed-clause-any_moment : goal.returns-then-not-is_changed-clause-any_moment
returns-then-not-is_changed-clause-any_moment g c =
    let disk = g.D.Disk in
    let after = g.M.Machine.after in
    let blank = g.M.Machine.blank in
    let old = c.args.journal.now in
    let file = disk.contents old.disk in
    let s = c.requires.settled in
    before_call disk.contents disk.outcome disk.is_healthy old s disk.moment disk.outcome_since g.met.D.Disk.only_now
    (IsBeforeOrAfterRun after blank old.head file c.args.payload.now)
    (inl (finds after blank old.head (state_of after blank file) (recovered file) file refl (settled_opens disk.contents disk.outcome disk.is_healthy old s)))

pub returns-then-not-is_changed-clause-kept : goal.returns-then-not-is_changed-clause-kept
returns-then-not-is_changed-clause-kept g c =
    let disk = g.D.Disk in
    let old = c.args.journal.now in
    let file = disk.contents old.disk in
    let s = c.requires.settled in
    let same : c.run.new.self ≡ c.args.machine.now = search rules in (
      s.durable,
      finds g.M.Machine.after g.M.Machine.blank old.head c.run.new.self (recovered file) file (sym (same ∙ c.requires.same))
          (settled_opens disk.contents disk.outcome disk.is_healthy old s),
    )
