use Rattle.std.proofs.Common.{◌≡◌, List, ℕ, [], refl, sym, ◌∙◌, ap, subst, arith}
use Rattle.bt_journal.specs.Disks.{LeavesOnly}
use Rattle.bt_journal.specs.Files.{recovered, Opens}
use Rattle.bt_journal.specs.declared.head.Head.{Head}
use Rattle.bt_journal.specs.declared.journal.Journal.{Journal}
use Rattle.bt_journal.proofs.HeadFrames.{Fits}
use Rattle.bt_journal.proofs.OpenFiles.{opens_empty}
use Rattle.bt_journal.proofs.SettledJournals.{new_settled}
use Rattle.bt_journal.proofs.opening.open_new.Goals as goal

-- an empty file stands for nothing
nothing : (head : Head) (file : List ℕ) → file ≡ [] → recovered file ≡ []
nothing head file empty = ap recovered empty ∙ (opens_empty head).frames

pub returns-in-Ok-clause-settled : goal.returns-in-Ok-clause-settled
returns-in-Ok-clause-settled g c =
    let disk = g.D.Disk in
    let head = c.args.head in
    let fits : Fits head = record { format = omega arith; engine = omega arith; salt = omega arith } in
    let e = c.in-Ok.ensures in
    (new_settled disk.contents disk.outcome disk.is_healthy _ fits e.contents refl refl e.durable e.healthy).0

pub returns-in-Ok-clause-payloads : goal.returns-in-Ok-clause-payloads
returns-in-Ok-clause-payloads g c =
    let disk = g.D.Disk in
    let head = c.args.head in
    let fits : Fits head = record { format = omega arith; engine = omega arith; salt = omega arith } in
    let e = c.in-Ok.ensures in
    let journal : Journal g.row.D.Denot = record { disk = c.write_head.new.disk; head = head; end = 40; seed = head.salt; zeros = 0 } in
    (new_settled disk.contents disk.outcome disk.is_healthy journal fits e.contents refl refl e.durable e.healthy).1
    ∙ sym (nothing head (disk.contents c.args.disk) c.requires.empty)

pub returns-in-Ok-clause-sound : goal.returns-in-Ok-clause-sound
returns-in-Ok-clause-sound g c =
    subst (λ (f : List ℕ). Opens c.args.head (recovered f) f) (sym c.requires.empty)
    (subst (λ (ps : List (List ℕ)). Opens c.args.head ps []) (sym (opens_empty c.args.head).frames) (opens_empty c.args.head))

pub returns-in-Ok-clause-any_moment : goal.returns-in-Ok-clause-any_moment
returns-in-Ok-clause-any_moment g c =
    let disk = g.D.Disk in
    subst (λ (ps : List (List ℕ)). LeavesOnly disk.moment disk.outcome_since c.args.disk c.write_head.new.disk (Opens c.args.head ps))
    (sym (nothing c.args.head (disk.contents c.args.disk) c.requires.empty)) c.in-Ok.ensures.any_moment

pub returns-in-Err-clause-any_moment_err : goal.returns-in-Err-clause-any_moment_err
returns-in-Err-clause-any_moment_err g c =
    let disk = g.D.Disk in
    subst (λ (ps : List (List ℕ)). LeavesOnly disk.moment disk.outcome_since c.args.disk c.write_head.new.disk (Opens c.args.head ps))
    (sym (nothing c.args.head (disk.contents c.args.disk) c.requires.empty)) c.in-Err.ensures.any_moment
