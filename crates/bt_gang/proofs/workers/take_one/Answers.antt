use Rattle.std.proofs.Common.{◌≡◌, ◌∙◌, ◌++◌, Some, None, append-nil, ap, subst, sym}
use Rattle.crossbeam_queue.specs.Passes.{view}
use Rattle.bt_gang.specs.Queue.{known}
use Rattle.bt_gang.specs.inside.Workers.{HasServedIfStarted, out_of}
use Rattle.bt_gang.specs.declared.crew.TheConstants.{MOST_WORKERS}
use Rattle.bt_gang.proofs.Rules.{merges}
use Rattle.bt_gang.proofs.workers.take_one.Goals as goal

pub absorb-requires-clause-rule : goal.absorb-requires-clause-rule
absorb-requires-clause-rule g c = merges MOST_WORKERS _ _ _ _ c.requires.pass.1

pub returns-clause-took : goal.returns-clause-took
returns-clause-took g c = λ number served.
    let shift = c.args.shift.now in
    let v = view c.args.pass.now in
    let h = subst (HasServedIfStarted (g.W.Work.allows shift.work.now) shift.jobs.now c.args.all.now.value.items number) c.in-Some.is served in
    c.absorb.ensures.rule ∙ ap (λ w. known v.jobs (v.lists ++ w.lists)) h.knows

pub returns-in_default-clause-took : goal.returns-in_default-clause-took
returns-in_default-clause-took g c = λ number served. let v = view c.args.pass.now in sym (ap (known v.jobs) (append-nil v.lists))
