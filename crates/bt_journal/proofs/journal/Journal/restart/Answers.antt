use Rattle.std.proofs.Common.{◌+◌, inl, refl, sym, ◌∙◌, subst, arith}
use Rattle.bt_journal.specs.Disks.{Only, Swapped}
use Rattle.bt_journal.specs.Frames.{frame_size}
use Rattle.bt_journal.specs.Heads.{head_size}
use Rattle.bt_journal.specs.Files.{recovered, IsSwapped}
use Rattle.bt_journal.proofs.HeadFrames.{Fits}
use Rattle.bt_journal.proofs.offered.Moments.{goes_on, leaves}
use Rattle.bt_journal.proofs.SettledJournals.{settled_opens, before_call, swap_leaves, swapped}
use Rattle.bt_journal.proofs.journal.Journal.restart.Goals as goal

pub returns-then-payload-ge-MOST_BYTES-clause-any_moment : goal.returns-then-payload-ge-MOST_BYTES-clause-any_moment
returns-then-payload-ge-MOST_BYTES-clause-any_moment g c =
    let disk = g.D.Disk in
    let old = c.args.self.now in
    before_call disk.contents disk.outcome disk.is_healthy old c.requires disk.moment disk.outcome_since g.met.D.Disk.only_now
    (IsSwapped old.head (recovered (disk.contents old.disk)) c.args.payload.now) (inl (settled_opens disk.contents disk.outcome disk.is_healthy old c.requires))

pub returns-in_err-file-clause-any_moment : goal.returns-in_err-file-clause-any_moment
returns-in_err-file-clause-any_moment g c =
    let disk = g.D.Disk in
    let old = c.args.self.now in
    before_call disk.contents disk.outcome disk.is_healthy old c.requires disk.moment disk.outcome_since g.met.D.Disk.only_now
    (IsSwapped old.head (recovered (disk.contents old.disk)) c.args.payload.now) (inl (settled_opens disk.contents disk.outcome disk.is_healthy old c.requires))

pub returns-in_err-replace-clause-any_moment : goal.returns-in_err-replace-clause-any_moment
returns-in_err-replace-clause-any_moment g c =
    let disk = g.D.Disk in
    let old = c.args.self.now in
    let P = IsSwapped old.head (recovered (disk.contents old.disk)) c.args.payload.now in
    let opened = settled_opens disk.contents disk.outcome disk.is_healthy old c.requires in
    let before = before_call disk.contents disk.outcome disk.is_healthy old c.requires disk.moment disk.outcome_since g.met.D.Disk.only_now P (inl opened) in
    let next = c.next-head.result in
    let fits : Fits next = record { format = omega arith; engine = omega arith; salt = omega arith } in
    let here =
    swap_leaves old.head (recovered (disk.contents old.disk)) c.args.payload.now (disk.contents old.disk) opened c.in_ok-file.file.items next
    c.next-head.ensures.same fits (omega arith) c.in_ok-file.ensures in
    goes_on disk.moment disk.outcome_since old.disk old.disk c.replace.new.self P _ before c.replace.ensures.time
    (leaves (Swapped c.in_ok-file.file.items) (disk.contents old.disk) _ _ P c.requires.durable c.replace.ensures.crash here)

pub returns-clause-any_moment : goal.returns-clause-any_moment
returns-clause-any_moment g c =
    let disk = g.D.Disk in
    let old = c.args.self.now in
    let P = IsSwapped old.head (recovered (disk.contents old.disk)) c.args.payload.now in
    let opened = settled_opens disk.contents disk.outcome disk.is_healthy old c.requires in
    let before = before_call disk.contents disk.outcome disk.is_healthy old c.requires disk.moment disk.outcome_since g.met.D.Disk.only_now P (inl opened) in
    let next = c.next-head.result in
    let fits : Fits next = record { format = omega arith; engine = omega arith; salt = omega arith } in
    let here =
    swap_leaves old.head (recovered (disk.contents old.disk)) c.args.payload.now (disk.contents old.disk) opened c.in_ok-file.file.items next
    c.next-head.ensures.same fits (omega arith) c.in_ok-file.ensures in
    goes_on disk.moment disk.outcome_since old.disk old.disk c.replace.new.self P _ before c.replace.ensures.time
    (leaves (Swapped c.in_ok-file.file.items) (disk.contents old.disk) _ _ P c.requires.durable c.replace.ensures.crash here)

pub returns-clause-settled : goal.returns-clause-settled
returns-clause-settled g c =
    let disk = g.D.Disk in
    let next = c.next-head.result in
    let fits : Fits next = record { format = omega arith; engine = omega arith; salt = omega arith } in
    let file = c.in_ok-replace.ensures.replaced ∙ c.in_ok-file.ensures in
    let only = subst (λ f. Only f (disk.outcome c.replace.new.self)) (sym c.in_ok-replace.ensures.replaced) c.in_ok-replace.ensures.durable in
    (swapped disk.contents disk.outcome disk.is_healthy _ c.args.payload.now fits (omega arith) file (omega arith) c.next_seed-self.ensures only c.in_ok-replace.ensures.healthy).0

pub returns-clause-acknowledged : goal.returns-clause-acknowledged
returns-clause-acknowledged g c =
    let disk = g.D.Disk in
    let next = c.next-head.result in
    let fits : Fits next = record { format = omega arith; engine = omega arith; salt = omega arith } in
    let file = c.in_ok-replace.ensures.replaced ∙ c.in_ok-file.ensures in
    let only = subst (λ f. Only f (disk.outcome c.replace.new.self)) (sym c.in_ok-replace.ensures.replaced) c.in_ok-replace.ensures.durable in
    (swapped disk.contents disk.outcome disk.is_healthy (record { disk = c.replace.new.self; head = next; end = head_size + frame_size c.args.payload.now; seed = c.next_seed-self.result; zeros = 0 })
    c.args.payload.now fits (omega arith) file refl c.next_seed-self.ensures only c.in_ok-replace.ensures.healthy).1
