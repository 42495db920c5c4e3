use Rattle.std.proofs.Common.{ℕ, IfSome, None, Some, ap, subst, sym}
use Rattle.bt_gang.specs.inside.Workers.{HasServedIfStarted, IsChild}
use Rattle.bt_gang.proofs.Working.{promised}
use Rattle.bt_gang.proofs.workers.join.Goals as goal

pub returns-in-Some : goal.returns-in-Some
returns-in-Some g c = λ number is.
    let shift = c.args.shift.now in
    promised g.W.Work.allows shift.work.now shift.jobs.now c.args.all.now.value.items number c.in-Some.child.promise c.join.result
    (subst (IsChild shift.work.now shift.jobs.now c.args.all.now.value.items number) c.in-Some.is is) c.join.ensures

pub returns-in-None : goal.returns-in-None
returns-in-None g c = λ number is. tt
