use Rattle.std.proofs.Common.{sym, ◌∙◌, ap}
use Rattle.bt_journal.specs.Files.{recovered}
use Rattle.bt_journal.specs.Stores.{after_all}
use Rattle.bt_journal.proofs.KeptStates.{finds}
use Rattle.bt_journal.proofs.ReadFiles.{replayed_state}
use Rattle.bt_journal.proofs.SettledJournals.{settled_opens}
use Rattle.bt_journal.proofs.steps.open_state.Goals as goal

pub returns-in-Ok-clause-state : goal.returns-in-Ok-clause-state
returns-in-Ok-clause-state g c =
    let replay = c.args.replay in
    replayed_state g.M.Machine.after g.M.Machine.blank replay.found (g.D.Disk.contents c.args.disk) replay c.requires.read

pub returns-in-Ok-clause-consistent : goal.returns-in-Ok-clause-consistent
returns-in-Ok-clause-consistent g c =
    let after = g.M.Machine.after in
    let blank = g.M.Machine.blank in
    let replay = c.args.replay in
    record {
      settled = c.in-Ok.ensures.settled;
      same = replayed_state after blank replay.found (g.D.Disk.contents c.args.disk) replay c.requires.read ∙ sym (ap (after_all after blank) c.in-Ok.ensures.payloads);
    }

pub returns-in-Ok-clause-kept : goal.returns-in-Ok-clause-kept
returns-in-Ok-clause-kept g c =
    let disk = g.D.Disk in
    let after = g.M.Machine.after in
    let blank = g.M.Machine.blank in
    let replay = c.args.replay in
    let journal = c.in-Ok.journal in
    let settled = c.in-Ok.ensures.settled in
    let same = replayed_state after blank replay.found (disk.contents c.args.disk) replay c.requires.read ∙ sym (ap (after_all after blank) c.in-Ok.ensures.payloads) in (
      settled.durable,
      finds after blank journal.head replay.machine (recovered (disk.contents journal.disk)) (disk.contents journal.disk) (sym same)
          (settled_opens disk.contents disk.outcome disk.is_healthy journal settled),
    )
