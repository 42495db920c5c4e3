use Rattle.std.proofs.Common.{◌≡◌, ◌∙◌, ap, subst}
use Rattle.std.proofs.lemmas.Result.{IfOk-weaker}
use Rattle.std.specs.Result.{IfOk}
use Rattle.std.specs.Vec.Iter.{into_iter_items}
use Rattle.bt_message.specs.Meanings.{meaning_of}
use Rattle.bt_flush.specs.Drains.{drain}
use Rattle.bt_form.specs.Flushes.{crown}
use Rattle.bt_gather.proofs.PieceShares.{tree-outcome}
use Rattle.bt_gather.proofs.SunkTrees.{drained_dry, drained_fits, drained_holds}
use Rattle.bt_gather.proofs.round.drain.Goals as goal

pub whole_tree-requires : goal.whole_tree-requires
whole_tree-requires g c =
    (tree-outcome (meaning_of g.V.Merge.terms) c.in_ok-tree.tree c.in_ok-tree.jobs.items _ c.in_ok-tree.ensures.jobs
    (into_iter_items c.into_iter-pieces.result) (c.into_iter-pieces.ensures.rest ∙ c.in_ok-pieces.ensures.rows)).0

pub returns-clause-tree : goal.returns-clause-tree
returns-clause-tree g c =
    let meaning = meaning_of g.V.Merge.terms in
    let whole = (tree-outcome meaning c.in_ok-tree.tree c.in_ok-tree.jobs.items _ c.in_ok-tree.ensures.jobs (into_iter_items c.into_iter-pieces.result)
    (c.into_iter-pieces.ensures.rest ∙ c.in_ok-pieces.ensures.rows)).1 in
    subst (λ t. IfOk c.whole_tree.result (λ tree. tree ≡ t))
    (whole ∙ ap (λ p. (c.args.tree.0, crown c.args.tree.0 (drain meaning c.args.tree.0 c.args.tree.1 p))) c.new.ensures)
    c.whole_tree.ensures.tree

pub returns-clause-fits : goal.returns-clause-fits
returns-clause-fits g c = IfOk-weaker c.whole_tree.result _ _ (drained_fits (meaning_of g.V.Merge.terms) c.args.tree c.in_ok-tree.ensures.fits) (returns-clause-tree g c)

pub returns-clause-rows : goal.returns-clause-rows
returns-clause-rows g c = IfOk-weaker c.whole_tree.result _ _ (drained_holds (meaning_of g.V.Merge.terms) c.args.tree c.in_ok-tree.ensures.fits) (returns-clause-tree g c)

pub returns-clause-dry : goal.returns-clause-dry
returns-clause-dry g c = IfOk-weaker c.whole_tree.result _ _ (drained_dry (meaning_of g.V.Merge.terms) c.args.tree c.in_ok-tree.ensures.fits) (returns-clause-tree g c)
