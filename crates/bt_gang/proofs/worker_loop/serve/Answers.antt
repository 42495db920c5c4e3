use Rattle.std.proofs.Common.{refl, ap, subst, sym, rules, ◌≡◌, ◌∙◌}
use mathlib.Core.Option.{some}
use lib.ListN.{get_elem?}
use Rattle.crossbeam_queue.specs.Passes.{view}
use Rattle.bt_gang.specs.Answers.{Gains}
use Rattle.bt_gang.specs.declared.crew.TheConstants.{MOST_WORKERS}
use Rattle.bt_gang.proofs.Rules.{pops, learns}
use Rattle.bt_gang.proofs.Serving.{gained_list, gains_none, gains_more, spare_left, found_nothing, nothing_waits, at_all}
use Rattle.bt_gang.proofs.worker_loop.serve.Goals as goal

pub loop-init : goal.loop-init
loop-init g c = record { pass = c.requires.pass.0; gains = gains_none (g.W.Work.allows c.args.work.now) (view c.args.pass.now) c.args.out.now }

pub pop_as-requires-clause-rule : goal.pop_as-requires-clause-rule
pop_as-requires-clause-rule g c =
    let some_list = gained_list _ _ _ c.loop.invariant.gains.pass c.requires.pass.1 in
    (pops MOST_WORKERS _ _ _ refl some_list, learns MOST_WORKERS _ _ some_list)

pub run-value-requires : goal.run-value-requires
run-value-requires g c =
    let was = view c.args.pass.now in
    let item = c.in-Some-pop_as.item in
    let at : get_elem? was.jobs item.number ≡ some item.job = subst (λ js. get_elem? js item.number ≡ some item.job) (ap (λ y. y.jobs) c.loop.invariant.gains.pass) c.in-Some-pop_as.ensures.rule.1 in
    at_all (g.W.Work.accepts c.args.work.now) was.jobs item.number item.job c.requires.accepts at

pub add-requires : goal.add-requires
add-requires g c = spare_left (g.W.Work.allows c.args.work.now) (view c.args.pass.now) _ _ c.args.out.now c.loop.out c.in-Some-pop_as.item
    c.loop.invariant.gains c.in-Some-pop_as.ensures.rule c.requires.pass.1 c.requires.spare

pub loop-preserved : goal.loop-preserved
loop-preserved g c = record {
  pass = search rules;
  gains = gains_more (g.W.Work.allows c.args.work.now) (view c.args.pass.now) _ _ c.args.out.now c.loop.out _ c.in-Some-pop_as.item _ c.loop.invariant.gains
      c.in-Some-pop_as.ensures.rule c.run-value.ensures c.add.ensures.list c.add.ensures.spare;
}

pub returns-in-None-pop_as-clause-settled : goal.returns-in-None-pop_as-clause-settled
returns-in-None-pop_as-clause-settled g c = nothing_waits MOST_WORKERS _ _ c.in-None-pop_as.ensures.rule.0 c.in-None-pop_as.ensures.rule.1

pub returns-in-None-pop_as-clause-last : goal.returns-in-None-pop_as-clause-last
returns-in-None-pop_as-clause-last g c = found_nothing MOST_WORKERS _ (returns-in-None-pop_as-clause-settled g c) refl

pub returns-in-None-pop_as-clause-gains : goal.returns-in-None-pop_as-clause-gains
returns-in-None-pop_as-clause-gains g c =
    subst (λ v. Gains (g.W.Work.allows c.args.work.now) (view c.args.pass.now) v c.args.out.now c.loop.out) (sym c.in-None-pop_as.ensures.rule.0) c.loop.invariant.gains

pub returns-in-None-pop_as-clause-pass : goal.returns-in-None-pop_as-clause-pass
returns-in-None-pop_as-clause-pass g c =
    let same = c.in-None-pop_as.ensures.queue in
    let held = c.loop.invariant.pass in
    (same.0 ∙ held.0, same.2 ∙ held.1)
