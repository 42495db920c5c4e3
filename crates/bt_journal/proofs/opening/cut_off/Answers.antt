use Rattle.std.proofs.Common.{◌≡◌, ℕ, ◌+◌, List, take, Some, sym, ◌∙◌, ap, subst, arith}
use Rattle.bt_journal.specs.Disks.{Only, Cut}
use Rattle.bt_journal.specs.Frames.{extent, IsFramed}
use Rattle.bt_journal.specs.Heads.{head_at, head_size, body_of}
use Rattle.bt_journal.specs.Files.{recovered, Opens}
use Rattle.bt_journal.proofs.offered.Moments.{started, goes_on, leaves}
use Rattle.bt_journal.proofs.CutFiles.{cut_head, cut_opens, cut_framed, whole_opens}
use Rattle.bt_journal.proofs.opening.cut_off.Goals as goal

pub returns-in_err-cut-clause-any_moment : goal.returns-in_err-cut-clause-any_moment
returns-in_err-cut-clause-any_moment g c =
    let disk = g.D.Disk in
    let old = c.args.disk.now in
    let head = c.args.head in
    let file = disk.contents old in
    let P = Opens head (recovered file) in
    let before = started disk.moment disk.outcome_since old P
    (λ f left. subst P (sym (c.requires.durable f (g.met.D.Disk.only_now old f left))) (whole_opens head file c.requires.head c.requires.sound)) in
    goes_on disk.moment disk.outcome_since old old c.cut.new.self P _ before c.cut.ensures.time
    (leaves (Cut c.args.end) file _ _ P c.requires.durable c.cut.ensures.crash
    (λ f cut. cut_opens head file c.requires.head c.requires.sound f (subst (λ (n : ℕ). Cut n file f) c.requires.end cut)))

pub returns-in_err-sync-clause-any_moment : goal.returns-in_err-sync-clause-any_moment
returns-in_err-sync-clause-any_moment g c =
    let disk = g.D.Disk in
    let old = c.args.disk.now in
    let head = c.args.head in
    let file = disk.contents old in
    let P = Opens head (recovered file) in
    let before = started disk.moment disk.outcome_since old P
    (λ f left. subst P (sym (c.requires.durable f (g.met.D.Disk.only_now old f left))) (whole_opens head file c.requires.head c.requires.sound)) in
    let left = leaves (Cut c.args.end) file _ _ P c.requires.durable c.cut.ensures.crash
    (λ f cut. cut_opens head file c.requires.head c.requires.sound f (subst (λ (n : ℕ). Cut n file f) c.requires.end cut)) in
    let cut = goes_on disk.moment disk.outcome_since old old c.cut.new.self P _ before c.cut.ensures.time left in
    goes_on disk.moment disk.outcome_since old c.cut.new.self c.sync.new.self P _ cut c.sync.ensures.time (λ f now. left f (c.sync.ensures.crash f now))

pub returns-clause-any_moment : goal.returns-clause-any_moment
returns-clause-any_moment g c =
    let disk = g.D.Disk in
    let old = c.args.disk.now in
    let head = c.args.head in
    let file = disk.contents old in
    let P = Opens head (recovered file) in
    let before = started disk.moment disk.outcome_since old P
    (λ f left. subst P (sym (c.requires.durable f (g.met.D.Disk.only_now old f left))) (whole_opens head file c.requires.head c.requires.sound)) in
    let left = leaves (Cut c.args.end) file _ _ P c.requires.durable c.cut.ensures.crash
    (λ f cut. cut_opens head file c.requires.head c.requires.sound f (subst (λ (n : ℕ). Cut n file f) c.requires.end cut)) in
    let cut = goes_on disk.moment disk.outcome_since old old c.cut.new.self P _ before c.cut.ensures.time left in
    goes_on disk.moment disk.outcome_since old c.cut.new.self c.sync.new.self P _ cut c.sync.ensures.time (λ f now. left f (c.sync.ensures.crash f now))

pub returns-clause-head : goal.returns-clause-head
returns-clause-head g c =
    let file = g.D.Disk.contents c.args.disk.now in
    let head = c.args.head in
    let is = c.sync.ensures.contents ∙ c.in_ok-cut.ensures.cut ∙ ap (λ (n : ℕ). take n file) c.requires.end in
    subst (λ (f : List ℕ). head_at f ≡ Some head) (sym is) (cut_head head file c.requires.head c.requires.sound (head_size + extent (recovered file)) (omega arith))

pub returns-clause-framed : goal.returns-clause-framed
returns-clause-framed g c =
    let file = g.D.Disk.contents c.args.disk.now in
    let head = c.args.head in
    let is = c.sync.ensures.contents ∙ c.in_ok-cut.ensures.cut ∙ ap (λ (n : ℕ). take n file) c.requires.end in
    subst (λ (f : List ℕ). IsFramed head.salt (recovered file) (body_of f)) (sym is) (cut_framed head file c.requires.head c.requires.sound)

pub returns-clause-durable : goal.returns-clause-durable
returns-clause-durable g c = subst (λ f. Only f (g.D.Disk.outcome c.sync.new.self)) (sym c.sync.ensures.contents) c.in_ok-sync.ensures.durable
