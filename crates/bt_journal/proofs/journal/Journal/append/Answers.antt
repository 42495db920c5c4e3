use Rattle.std.proofs.Common.{◌+◌, inl, refl, sym, subst, arith}
use Rattle.bt_journal.specs.Disks.{Only, Holds}
use Rattle.bt_journal.specs.Frames.{frame_size}
use Rattle.bt_journal.specs.Files.{recovered, IsBeforeOrAfter}
use Rattle.bt_journal.proofs.offered.Moments.{goes_on}
use Rattle.bt_journal.proofs.SettledJournals.{settled_opens, settled_within, before_call, write_leaves, written}
use Rattle.bt_journal.proofs.journal.Journal.append.Goals as goal

pub returns-then-self-ge-MOST_BYTES-clause-any_moment : goal.returns-then-self-ge-MOST_BYTES-clause-any_moment
returns-then-self-ge-MOST_BYTES-clause-any_moment g c =
    let disk = g.D.Disk in
    let old = c.args.self.now in
    before_call disk.contents disk.outcome disk.is_healthy old c.requires disk.moment disk.outcome_since g.met.D.Disk.only_now
    (IsBeforeOrAfter old.head (recovered (disk.contents old.disk)) c.args.payload.now) (inl (settled_opens disk.contents disk.outcome disk.is_healthy old c.requires))

pub returns-in_err-bytes-clause-any_moment : goal.returns-in_err-bytes-clause-any_moment
returns-in_err-bytes-clause-any_moment g c =
    let disk = g.D.Disk in
    let old = c.args.self.now in
    before_call disk.contents disk.outcome disk.is_healthy old c.requires disk.moment disk.outcome_since g.met.D.Disk.only_now
    (IsBeforeOrAfter old.head (recovered (disk.contents old.disk)) c.args.payload.now) (inl (settled_opens disk.contents disk.outcome disk.is_healthy old c.requires))

pub write_at-requires : goal.write_at-requires
write_at-requires g c = settled_within g.D.Disk.contents g.D.Disk.outcome g.D.Disk.is_healthy c.args.self.now c.requires

pub returns-in_err-write_at-clause-any_moment : goal.returns-in_err-write_at-clause-any_moment
returns-in_err-write_at-clause-any_moment g c =
    let disk = g.D.Disk in
    let old = c.args.self.now in
    let P = IsBeforeOrAfter old.head (recovered (disk.contents old.disk)) c.args.payload.now in
    let here = inl (settled_opens disk.contents disk.outcome disk.is_healthy old c.requires) in
    let before = before_call disk.contents disk.outcome disk.is_healthy old c.requires disk.moment disk.outcome_since g.met.D.Disk.only_now P here in
    let leaves = write_leaves disk.contents disk.outcome disk.is_healthy old c.requires c.args.payload.now _ _ c.write_at.ensures.crash in
    goes_on disk.moment disk.outcome_since old.disk old.disk c.write_at.new.self P _ before c.write_at.ensures.time leaves

pub returns-in_err-sync-clause-any_moment : goal.returns-in_err-sync-clause-any_moment
returns-in_err-sync-clause-any_moment g c =
    let disk = g.D.Disk in
    let old = c.args.self.now in
    let P = IsBeforeOrAfter old.head (recovered (disk.contents old.disk)) c.args.payload.now in
    let here = inl (settled_opens disk.contents disk.outcome disk.is_healthy old c.requires) in
    let before = before_call disk.contents disk.outcome disk.is_healthy old c.requires disk.moment disk.outcome_since g.met.D.Disk.only_now P here in
    let leaves = write_leaves disk.contents disk.outcome disk.is_healthy old c.requires c.args.payload.now _ _ c.write_at.ensures.crash in
    let torn = goes_on disk.moment disk.outcome_since old.disk old.disk c.write_at.new.self P _ before c.write_at.ensures.time leaves in
    goes_on disk.moment disk.outcome_since old.disk c.write_at.new.self c.sync.new.self P _ torn c.sync.ensures.time (λ f now. leaves f (c.sync.ensures.crash f now))

pub returns-clause-any_moment : goal.returns-clause-any_moment
returns-clause-any_moment g c =
    let disk = g.D.Disk in
    let old = c.args.self.now in
    let P = IsBeforeOrAfter old.head (recovered (disk.contents old.disk)) c.args.payload.now in
    let here = inl (settled_opens disk.contents disk.outcome disk.is_healthy old c.requires) in
    let before = before_call disk.contents disk.outcome disk.is_healthy old c.requires disk.moment disk.outcome_since g.met.D.Disk.only_now P here in
    let leaves = write_leaves disk.contents disk.outcome disk.is_healthy old c.requires c.args.payload.now _ _ c.write_at.ensures.crash in
    let torn = goes_on disk.moment disk.outcome_since old.disk old.disk c.write_at.new.self P _ before c.write_at.ensures.time leaves in
    goes_on disk.moment disk.outcome_since old.disk c.write_at.new.self c.sync.new.self P _ torn c.sync.ensures.time (λ f now. leaves f (c.sync.ensures.crash f now))

pub returns-clause-settled : goal.returns-clause-settled
returns-clause-settled g c =
    let disk = g.D.Disk in
    let old = c.args.self.now in
    let bytes = c.in_ok-bytes.ensures in
    let holds = subst (λ f. Holds (disk.contents old.disk) old.end c.in_ok-bytes.bytes.items f) (sym c.sync.ensures.contents) c.in_ok-write_at.ensures.written in
    let only = subst (λ f. Only f (disk.outcome c.sync.new.self)) (sym c.sync.ensures.contents) c.in_ok-sync.ensures.durable in
    (written disk.contents disk.outcome disk.is_healthy old c.requires _ c.args.payload.now c.in_ok-bytes.bytes.items bytes.0 (omega arith) (omega arith) bytes.1
    holds refl refl c.next_seed-self.ensures only c.in_ok-sync.ensures.healthy).0

pub returns-clause-acknowledged : goal.returns-clause-acknowledged
returns-clause-acknowledged g c =
    let disk = g.D.Disk in
    let old = c.args.self.now in
    let bytes = c.in_ok-bytes.ensures in
    let holds = subst (λ f. Holds (disk.contents old.disk) old.end c.in_ok-bytes.bytes.items f) (sym c.sync.ensures.contents) c.in_ok-write_at.ensures.written in
    let only = subst (λ f. Only f (disk.outcome c.sync.new.self)) (sym c.sync.ensures.contents) c.in_ok-sync.ensures.durable in
    (written disk.contents disk.outcome disk.is_healthy old c.requires
    (record { disk = c.sync.new.self; head = old.head; end = old.end + frame_size c.args.payload.now; seed = c.next_seed-self.result; zeros = 0 })
    c.args.payload.now c.in_ok-bytes.bytes.items bytes.0 (omega arith) (omega arith) bytes.1
    holds refl refl c.next_seed-self.ensures only c.in_ok-sync.ensures.healthy).1
