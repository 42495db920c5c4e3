use Rattle.std.proofs.Common.{All, ap, refl, sym, subst, ◌∙◌}
use Rattle.bt_gang.proofs.Working.{one_list, ready_spare, served_caller}
use Rattle.bt_gang.proofs.team.serve_all.Goals as goal

pub serve-requires-clause-pass : goal.serve-requires-clause-pass
serve-requires-clause-pass g c κs within = (c.requires.ready.mine.ready.pass, one_list _ _ _ _ c.requires.ready.mine.ready.knows)

pub serve-requires-clause-accepts : goal.serve-requires-clause-accepts
serve-requires-clause-accepts g c κs within = subst (All (λ job. g.W.Work.accepts c.args.shift.now.work.now job)) (sym (ap (λ v. v.jobs) c.requires.ready.mine.ready.knows)) c.requires.accepts

pub serve-requires-clause-spare : goal.serve-requires-clause-spare
serve-requires-clause-spare g c κs within = ready_spare (g.W.Work.allows c.args.shift.now.work.now) _ _ _ _ _ c.requires.ready.mine.ready

pub start-children-requires-clause-workers : goal.start-children-requires-clause-workers
start-children-requires-clause-workers g c κs within = c.requires.ready.workers

pub returns : goal.returns
returns g c =
    let shift = c.args.shift.now in
    record {
      mine = served_caller (g.W.Work.allows shift.work.now) shift.jobs.now c.args.all.now.value.items _ c.args.team.mine _ c.requires.ready.mine refl c.serve.ensures.pass c.serve.ensures.gains;
      others = c.join_all-others.ensures.each;
      len = c.join_all-others.ensures.len ∙ c.start-children.ensures.len;
    }
