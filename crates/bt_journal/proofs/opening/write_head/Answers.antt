use Rattle.std.proofs.Common.{[], sym, ◌∙◌, subst, arith}
use Rattle.bt_journal.specs.Disks.{Only, Swapped}
use Rattle.bt_journal.specs.Files.{Opens}
use Rattle.bt_journal.proofs.HeadFrames.{Fits}
use Rattle.bt_journal.proofs.offered.Moments.{started, goes_on, leaves}
use Rattle.bt_journal.proofs.OpenFiles.{opens_empty}
use Rattle.bt_journal.proofs.SettledJournals.{new_leaves}
use Rattle.bt_journal.proofs.opening.write_head.Goals as goal

pub returns-in_err-frame-clause-any_moment : goal.returns-in_err-frame-clause-any_moment
returns-in_err-frame-clause-any_moment g c =
    let disk = g.D.Disk in
    let old = c.args.disk.now in
    let head = c.args.head in
    started disk.moment disk.outcome_since old (Opens head [])
    (λ f left. subst (Opens head []) (sym (c.requires.durable f (g.met.D.Disk.only_now old f left) ∙ c.requires.empty)) (opens_empty head))

pub returns-in_err-replace-clause-any_moment : goal.returns-in_err-replace-clause-any_moment
returns-in_err-replace-clause-any_moment g c =
    let disk = g.D.Disk in
    let old = c.args.disk.now in
    let head = c.args.head in
    let fits : Fits head = record { format = omega arith; engine = omega arith; salt = omega arith } in
    let before = started disk.moment disk.outcome_since old (Opens head [])
    (λ f left. subst (Opens head []) (sym (c.requires.durable f (g.met.D.Disk.only_now old f left) ∙ c.requires.empty)) (opens_empty head)) in
    goes_on disk.moment disk.outcome_since old old c.replace.new.self (Opens head []) _ before c.replace.ensures.time
    (leaves (Swapped c.in_ok-frame.frame.items) (disk.contents old) _ _ (Opens head []) c.requires.durable c.replace.ensures.crash
    (new_leaves head fits (disk.contents old) c.in_ok-frame.frame.items c.requires.empty c.in_ok-frame.ensures))

pub returns-clause-any_moment : goal.returns-clause-any_moment
returns-clause-any_moment g c =
    let disk = g.D.Disk in
    let old = c.args.disk.now in
    let head = c.args.head in
    let fits : Fits head = record { format = omega arith; engine = omega arith; salt = omega arith } in
    let before = started disk.moment disk.outcome_since old (Opens head [])
    (λ f left. subst (Opens head []) (sym (c.requires.durable f (g.met.D.Disk.only_now old f left) ∙ c.requires.empty)) (opens_empty head)) in
    goes_on disk.moment disk.outcome_since old old c.replace.new.self (Opens head []) _ before c.replace.ensures.time
    (leaves (Swapped c.in_ok-frame.frame.items) (disk.contents old) _ _ (Opens head []) c.requires.durable c.replace.ensures.crash
    (new_leaves head fits (disk.contents old) c.in_ok-frame.frame.items c.requires.empty c.in_ok-frame.ensures))

pub returns-clause-durable : goal.returns-clause-durable
returns-clause-durable g c = subst (λ f. Only f (g.D.Disk.outcome c.replace.new.self)) (sym c.in_ok-replace.ensures.replaced) c.in_ok-replace.ensures.durable
