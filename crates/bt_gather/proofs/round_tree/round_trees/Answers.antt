use Rattle.std.proofs.Common.{◌≡◌, [], arith, refl, rules}
use Rattle.std.proofs.lemmas.List.{nil_from_length}
use Rattle.std.proofs.lemmas.List.Elements.{All-cons, All-nil, All-same}
use Rattle.bt_message.specs.Meanings.{meaning_of}
use Rattle.bt_message.specs.Weights.{weigh_of}
use Rattle.bt_form.specs.Fits.{HasShape}
use Rattle.bt_gather.specs.Rounds.{sunk_tree}
use Rattle.bt_gather.specs.inside.RoundJobs.{all_pieces}
use Rattle.bt_gather.specs.inside.RoundTrees.{trees_with}
use Rattle.bt_gather.proofs.PieceShares.{more-jobs}
use Rattle.bt_gather.proofs.SunkTrees.{sunk-next}
use Rattle.bt_gather.proofs.round_tree.round_trees.Goals as goal

pub loop-tree-preserved : goal.loop-tree-preserved
loop-tree-preserved g c =
    let meaning = meaning_of g.V.Merge.terms in
    let i = c.loop-tree.invariant in
    let one = c.in-Some.ensures.steps.0 in
    let us = trees_with c.loop-tree.list.items (all_pieces meaning c.loop-tree.jobs.items) in
    let all = more-jobs meaning c.loop-tree.list.items c.loop-tree.jobs.items us (record {
      runnable = i.runnable;
      fill = i.fill;
      give =
          refl;
    }) _ _ (sunk_tree meaning c.in-Some.tree) c.in_ok-next.ensures.jobs
    _ c.push_reserved.ensures.items _ c.in_ok-append.ensures.items in record {
      runnable = all.runnable;
      fill = all.fill;
      give = sunk-next meaning us _ (sunk_tree meaning c.in-Some.tree) all.give c.in-Some.tree _ _ one refl _ i.give;
      fit = λ rest. i.fit (All-same (λ x. HasShape (weigh_of g.V.Merge.terms) x.0.0 x.0.1) _ _ one
          (All-cons (λ x. HasShape (weigh_of g.V.Merge.terms) x.0.0 x.0.1) c.in-Some.tree _ c.in_ok-next.ensures.fits rest));
      number = search rules;
      space = search rules;
      room = search rules;
    }

pub returns-clause-fit : goal.returns-clause-fit
returns-clause-fit g c =
    let left = c.loop-tree.tree-iterator.rest in
    let none : left.items ≡ [] = nil_from_length left.items (omega (arith, left.ok.0, c.in-None.ensures.steps.0)) in
    c.loop-tree.invariant.fit (All-same (λ x. HasShape (weigh_of g.V.Merge.terms) x.0.0 x.0.1) left.items [] none (All-nil (λ x. HasShape (weigh_of g.V.Merge.terms) x.0.0 x.0.1)))
