use Rattle.std.proofs.Common.{◌≡◌, ◌∙◌, Some, ap, fold, rules, sym}
use Rattle.std.proofs.lemmas.Result.{on_ok_weaker}
use Rattle.std.specs.Option.{option_copied}
use Rattle.bt_message.specs.Effects.{effect_of}
use Rattle.bt_form.specs.Flushes.{holds}
use Rattle.bt_form.specs.Portions.{rows_of}
use Rattle.bt_form.specs.inside.NodeKinds.{tree_of}
use Rattle.bt_read.specs.inside.Limits.{limited}
use Rattle.bt_read.proofs.lemmas.code.RowsLimited.{none_shown}
use Rattle.bt_read.proofs.lemmas.code.RowsShown.{leaf_part}
use Rattle.bt_read.proofs.visits.+visit_portion.Goals as goal

pub returns-in-Leaf : goal.returns-in-Leaf
returns-in-Leaf g t c =
    let effect = effect_of g.V.Merge.terms.merged in
    let inside = c.portion.inside in
    on_ok_weaker c.visit_leaf.result
    (λ shown.
    shown
    ∙ ap (fold (limited g.S.Visitor.visited) (c.args.visitor.now, c.args.limit.now))
    (leaf_part effect (option_copied inside.low) (option_copied inside.high) inside.newer inside.node.now c.in-Leaf.rows c.between.result.now c.portion.invariant.2 c.portion.invariant.0
    (ap (holds effect) (c.kind.ensures.tree ∙ ap tree_of c.in-Leaf.is)) c.between.ensures.rows)
    ∙ ap (λ p. fold (limited g.S.Visitor.visited) (c.args.visitor.now, c.args.limit.now) (rows_of effect p)) c.portion.view_is)
    c.visit_leaf.ensures

pub returns-then-is_reached : goal.returns-then-is_reached
returns-then-is_reached g t c =
    let reached : c.loop-alloc.limit ≡ Some 0 = search rules in
    sym (c.loop-alloc.invariant.wanted ∙ none_shown g.S.Visitor.visited c.loop-alloc.visitor c.loop-alloc.limit (rows_of (effect_of g.V.Merge.terms.merged) c.loop-alloc.rest) reached)
