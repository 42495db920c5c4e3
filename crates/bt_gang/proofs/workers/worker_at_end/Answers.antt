use Rattle.std.proofs.Common.{[], All, ap, refl, sym, subst}
use Rattle.bt_gang.proofs.Working.{one_list, ready_spare, served}
use Rattle.bt_gang.proofs.workers.worker_at_end.Goals as goal

pub serve-requires-clause-pass : goal.serve-requires-clause-pass
serve-requires-clause-pass g c κs within = (c.requires.worker.pass, one_list _ _ _ _ c.requires.worker.knows)

pub serve-requires-clause-accepts : goal.serve-requires-clause-accepts
serve-requires-clause-accepts g c κs within = subst (All (λ job. g.W.Work.accepts c.args.shift.now.work.now job)) (sym (ap (λ v. v.jobs) c.requires.worker.knows)) c.requires.accepts

pub serve-requires-clause-spare : goal.serve-requires-clause-spare
serve-requires-clause-spare g c κs within = ready_spare (g.W.Work.allows c.args.shift.now.work.now) _ _ _ _ _ c.requires.worker

pub returns : goal.returns
returns g c = served (g.W.Work.allows c.args.shift.now.work.now) c.args.shift.now.jobs.now c.args.all.now.value.items [] _ c.args.worker _ c.requires.worker
    refl c.serve.ensures.pass c.serve.ensures.gains
