use Rattle.std.proofs.Common.{◌-◌, length, sym, subst}
use Rattle.bt_journal.specs.Files.{recovered, Opens}
use Rattle.bt_journal.proofs.CutFiles.{whole_opens, clean_framed}
use Rattle.bt_journal.proofs.offered.Moments.{started}
use Rattle.bt_journal.proofs.opening.settle.Goals as goal

pub returns-then-is_clean-clause-framed : goal.returns-then-is_clean-clause-framed
returns-then-is_clean-clause-framed g c =
    let file = g.D.Disk.contents c.args.disk.now in
    let end = c.args.end in
    clean_framed c.args.head file c.requires.head c.requires.sound end (length file - end) c.requires.end (c.requires.clean c.if-is_clean.true)

pub returns-then-is_clean-clause-any_moment : goal.returns-then-is_clean-clause-any_moment
returns-then-is_clean-clause-any_moment g c =
    let disk = g.D.Disk in
    let old = c.args.disk.now in
    let head = c.args.head in
    let file = disk.contents old in
    let P = Opens head (recovered file) in
    started disk.moment disk.outcome_since old P
    (λ f left. subst P (sym (c.requires.durable f (g.met.D.Disk.only_now old f left))) (whole_opens head file c.requires.head c.requires.sound))
