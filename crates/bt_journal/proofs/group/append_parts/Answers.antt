use Rattle.std.proofs.Common.{◌≡◌, ◌∙◌, ap, inl, length, refl, rules, sym}
use Rattle.std.proofs.lemmas.List.{nil_from_length}
use Rattle.bt_journal.specs.Files.{recovered, IsBeforeOrAfter}
use Rattle.bt_journal.specs.Stores.{after_all, state_of, IsBeforeOrAfterRun}
use Rattle.bt_journal.proofs.KeptStates.{after_all-push, finds, before_or_after}
use Rattle.bt_journal.proofs.offered.Moments.{leaves_also}
use Rattle.bt_journal.proofs.SettledJournals.{settled_opens, before_call}
use Rattle.bt_journal.proofs.group.append_parts.Goals as goal

pub returns-then-is_empty-clause-kept : goal.returns-then-is_empty-clause-kept
returns-then-is_empty-clause-kept g c =
    let disk = g.D.Disk in
    let after = g.M.Machine.after in
    let blank = g.M.Machine.blank in
    let old = c.args.journal.now in
    let file = disk.contents old.disk in
    let empty : length c.args.ahead.now ≡ 0 = search rules in
    let same : c.args.machine.now ≡ state_of after blank file =
    c.requires.same ∙ ap (after (state_of after blank file)) (nil_from_length c.args.ahead.now empty) ∙ g.met.M.Join.after_none (state_of after blank file) in (
      c.requires.settled.durable,
      finds after blank old.head c.args.machine.now (recovered file) file (sym same) (settled_opens disk.contents disk.outcome disk.is_healthy old c.requires.settled),
    )

pub returns-then-is_empty-clause-any_moment : goal.returns-then-is_empty-clause-any_moment
returns-then-is_empty-clause-any_moment g c =
    let disk = g.D.Disk in
    let after = g.M.Machine.after in
    let blank = g.M.Machine.blank in
    let old = c.args.journal.now in
    let file = disk.contents old.disk in
    before_call disk.contents disk.outcome disk.is_healthy old c.requires.settled disk.moment disk.outcome_since g.met.D.Disk.only_now
    (IsBeforeOrAfterRun after blank old.head file c.args.ahead.now)
    (inl (finds after blank old.head (state_of after blank file) (recovered file) file refl (settled_opens disk.contents disk.outcome disk.is_healthy old c.requires.settled)))

pub returns-clause-kept : goal.returns-clause-kept
returns-clause-kept g c =
    let disk = g.D.Disk in
    let after = g.M.Machine.after in
    let blank = g.M.Machine.blank in
    let next = c.append.new.self in
    let settled = c.in_ok-append.ensures.settled in
    let same = c.requires.same ∙ sym (after_all-push after blank (recovered (disk.contents c.args.journal.now.disk)) c.args.ahead.now)
    ∙ sym (ap (after_all after blank) c.in_ok-append.ensures.acknowledged) in (
      settled.durable,
      finds after blank next.head c.args.machine.now (recovered (disk.contents next.disk)) (disk.contents next.disk) (sym same)
          (settled_opens disk.contents disk.outcome disk.is_healthy next settled),
    )

pub returns-clause-any_moment : goal.returns-clause-any_moment
returns-clause-any_moment g c =
    let disk = g.D.Disk in
    let after = g.M.Machine.after in
    let blank = g.M.Machine.blank in
    let old = c.args.journal.now in
    let file = disk.contents old.disk in
    leaves_also disk.moment disk.outcome_since old.disk _ (IsBeforeOrAfter old.head (recovered file) c.args.ahead.now) (IsBeforeOrAfterRun after blank old.head file c.args.ahead.now)
    c.append.ensures.any_moment (before_or_after after blank old.head file c.args.ahead.now)
