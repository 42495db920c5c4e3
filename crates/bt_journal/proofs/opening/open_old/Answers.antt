use Rattle.std.proofs.Common.{◌≡◌, ◌-◌, ℕ, false, length, sym, ◌∙◌, ap, arith}
use Rattle.std.specs.Prelude.{replicate}
use Rattle.bt_journal.specs.Files.{has_frame_after, is_damaged, recovered}
use Rattle.bt_journal.proofs.CutFiles.{whole_opens}
use Rattle.bt_journal.proofs.ReadFiles.{damage_found, long_file, rest_found}
use Rattle.bt_journal.proofs.SettledJournals.{settled, opens_too}
use Rattle.bt_journal.proofs.opening.open_old.Goals as goal

pub returns-then-has_frame_after-clause-cause : goal.returns-then-has_frame_after-clause-cause
returns-then-has_frame_after-clause-cause g c =
    damage_found g.M.Machine.after g.M.Machine.blank (g.D.Disk.contents c.args.disk) c.args.found c.args.replay.now c.requires.read
    ∙ ap (has_frame_after c.args.replay.now.seed) (sym c.deref.ensures.value) ∙ sym c.has_frame_after.ensures ∙ c.if-has_frame_after.true

pub settle-requires-clause-sound : goal.settle-requires-clause-sound
settle-requires-clause-sound g c =
    damage_found g.M.Machine.after g.M.Machine.blank (g.D.Disk.contents c.args.disk) c.args.found c.args.replay.now c.requires.read
    ∙ ap (has_frame_after c.args.replay.now.seed) (sym c.deref.ensures.value) ∙ sym c.has_frame_after.ensures ∙ c.if-has_frame_after.false

pub settle-requires-clause-within : goal.settle-requires-clause-within
settle-requires-clause-within g c =
    let file = g.D.Disk.contents c.args.disk in
    omega (arith, long_file g.M.Machine.after g.M.Machine.blank (recovered file) file c.args.found c.args.replay.now c.requires.read)

pub settle-requires-clause-clean : goal.settle-requires-clause-clean
settle-requires-clause-clean g c zeros =
    let file = g.D.Disk.contents c.args.disk in
    let replay = c.args.replay.now in
    let long = long_file g.M.Machine.after g.M.Machine.blank (recovered file) file c.args.found replay c.requires.read in
    let size : length c.deref-2.result.now ≡ length file - replay.end = omega (arith, ap length c.deref-2.ensures.value, long) in
    rest_found g.M.Machine.after g.M.Machine.blank file c.args.found replay c.requires.read ∙ sym c.deref-2.ensures.value ∙ c.are_zeros-is_clean.ensures zeros
    ∙ ap (λ (n : ℕ). replicate n 0) size

pub returns-after-is_clean-clause-settled : goal.returns-after-is_clean-clause-settled
returns-after-is_clean-clause-settled g c =
    let disk = g.D.Disk in
    let e = c.in-Ok.ensures in
    let read = c.requires.read in
    (settled disk.contents disk.outcome disk.is_healthy _ (recovered (disk.contents c.args.disk)) e.head e.framed read.end read.seed e.durable e.healthy).0

pub returns-after-is_clean-clause-payloads : goal.returns-after-is_clean-clause-payloads
returns-after-is_clean-clause-payloads g c =
    let disk = g.D.Disk in
    let e = c.in-Ok.ensures in
    let read = c.requires.read in
    let replay = c.args.replay.now in
    (settled disk.contents disk.outcome disk.is_healthy (record { disk = c.settle.new.disk; head = c.args.found; end = replay.end; seed = replay.seed; zeros = 0 })
    (recovered (disk.contents c.args.disk)) e.head e.framed read.end read.seed e.durable e.healthy).1

pub returns-after-is_clean-clause-sound : goal.returns-after-is_clean-clause-sound
returns-after-is_clean-clause-sound g c =
    let file = g.D.Disk.contents c.args.disk in
    let replay = c.args.replay.now in
    let read = c.requires.read in
    let sound : is_damaged file ≡ false = damage_found g.M.Machine.after g.M.Machine.blank file c.args.found replay read
    ∙ ap (has_frame_after replay.seed) (sym c.deref.ensures.value) ∙ sym c.has_frame_after.ensures ∙ c.if-has_frame_after.false in
    opens_too replay.head c.args.found read.alike (recovered file) file (whole_opens c.args.found file read.head sound)
