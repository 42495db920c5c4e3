use Rattle.std.proofs.Common.{◌∙◌, ◌+◌, ◌++◌, ap, arith, drop, length, length-drop, map, subst, sym, take}
use Rattle.std.proofs.lemmas.Result.{IfOk-weaker}
use Rattle.bt_value.specs.Lists.{concatenation}
use Rattle.bt_messages.specs.Bins.{LieBetween}
use Rattle.bt_message.specs.Effects.{effect_of}
use Rattle.bt_form.specs.inside.NodeKinds.{HasBins, tree_of}
use Rattle.bt_read.specs.inside.ValuesSoFar.{option_of}
use Rattle.bt_read.specs.inside.Together.{tree_values}
use Rattle.bt_read.proofs.lemmas.code.LookupPath.{IsChildAt}
use Rattle.bt_read.proofs.lemmas.code.PivotSearch.{pivots_rise}
use Rattle.bt_read.proofs.offered.RowsOfChildren.{child_in_order, child_lower}
use Rattle.bt_form.proofs.offered.code.SiblingParts.{pivot_within}
use Rattle.bt_read.proofs.lemmas.code.Together.{as_many, from_there, leaf_values, next_run, run_within}
use Rattle.bt_read.proofs.lemmas.lookups.BinOfKey.{bin-there}
use Rattle.bt_read.proofs.joint_lookup.+tree_values.Goals as goal

pub first_run-place-requires-clause-rising : goal.first_run-place-requires-clause-rising
first_run-place-requires-clause-rising g t c =
    pivots_rise c.args.node.now c.in-Inner.children (concatenation c.in-Inner.bins) c.pivots-pivots.result.now (c.kind.ensures.tree
    ∙ ap tree_of c.in-Inner.is) c.pivots-pivots.ensures.pivots c.requires

pub tree_values-requires : goal.tree_values-requires
tree_values-requires g t c κs within =
    let here = c.kind.ensures.tree ∙ ap tree_of c.in-Inner.is in
    let place = c.first_run-place.result.0 in
    let below = pivot_within c.in-Inner.children c.nodes.result.now c.pivots-pivots.result.now place c.nodes.ensures c.pivots-pivots.ensures.pivots
    c.pivots-pivots.ensures.some c.first_run-place.ensures.place in
    let less = child_lower c.args.node.now c.in-Inner.children (concatenation c.in-Inner.bins) here c.nodes.result.now c.nodes.ensures place c.index-nodes-place.result below c.index-nodes-place.is in
    let order = child_in_order c.args.node.now c.in-Inner.children (concatenation c.in-Inner.bins) here c.nodes.result.now c.nodes.ensures place
    c.index-nodes-place.result below c.index-nodes-place.is c.requires in
    (omega (arith, less, c.decreases), (within.0, (within.1, order)))

pub add_after-requires-clause-len : goal.add_after-requires-clause-len
add_after-requires-clause-len g t c =
    as_many (effect_of g.V.Merge.terms.merged) (λ k. k.now) option_of c.first_run-place.result.1.now c.in_ok-below-in-Inner.below.items c.index-nodes-place.result c.in_ok-below-in-Inner.ensures

pub add_after-requires-clause-within : goal.add_after-requires-clause-within
add_after-requires-clause-within g t c =
    bin-there c.pivots-pivots.result.now c.in-Inner.bins c.first_run-place.result.0
    (subst (λ ps. LieBetween ps c.in-Inner.bins) (sym c.pivots-pivots.ensures.pivots) (subst HasBins c.in-Inner.is c.kind.ensures.divided)) c.first_run-place.ensures.place

pub loop-done-preserved : goal.loop-done-preserved
loop-done-preserved g t c =
    let effect = effect_of g.V.Merge.terms.merged in
    let child : IsChildAt c.args.node.now c.index-nodes-place.result (concatenation c.in-Inner.bins) c.pivots-pivots.result.now c.first_run-place.result.0 = record {
      siblings = c.in-Inner.children;
      trees = c.nodes.result.now;
      node_is = c.kind.ensures.tree ∙ ap tree_of c.in-Inner.is;
      trees_are = c.nodes.ensures;
      pivots_are = c.pivots-pivots.ensures.pivots;
      some = c.pivots-pivots.ensures.some;
      at = c.index-nodes-place.is;
    } in
    let lie = subst (λ ps. LieBetween ps c.in-Inner.bins) (sym c.pivots-pivots.ensures.pivots) (subst HasBins c.in-Inner.is c.kind.ensures.divided) in
    let keys = c.args.keys.now in
    let done = c.loop-done.done in
    let own = c.first_run-place.result.1.now in
    record {
      wanted = next_run effect c.in-Inner.bins child lie
          (λ k. k.now) (drop done keys) own (drop (done + length own) keys) (map option_of c.loop-done.values.items)
          (map option_of c.add_after.new.values.items) (map option_of c.in_ok-below-in-Inner.below.items) _
          c.first_run-place.ensures.belong (from_there keys own done (c.first_run-place.ensures.own ∙ ap (take (length own)) c.later_keys.ensures))
          c.in_ok-below-in-Inner.ensures c.in_ok-add_after-in-Inner.ensures c.loop-done.invariant.wanted;
      within = run_within keys c.later_keys.result.now own done c.loop-done.invariant.within c.later_keys.ensures c.first_run-place.ensures.count;
    }

pub returns-in-Leaf : goal.returns-in-Leaf
returns-in-Leaf g t c =
    IfOk-weaker c.found_at.result _ _ (λ values e. e
    ∙ leaf_values (effect_of g.V.Merge.terms.merged) (λ k. k.now) c.args.keys.now c.in-Leaf.rows c.args.node.now (c.kind.ensures.tree ∙ ap tree_of c.in-Leaf.is)) c.found_at.ensures

pub loop-done-init : goal.loop-done-init
loop-done-init g t c = record {
  wanted = ap (λ vs. map option_of vs ++ tree_values (effect_of g.V.Merge.terms.merged) (map (λ k. k.now) c.args.keys.now) c.args.node.now) c.in_ok-values-in-Inner.ensures.items;
  within = omega arith;
}

pub loop-done-smaller : goal.loop-done-smaller
loop-done-smaller g t c = omega (arith, c.loop-done-test.true, c.first_run-place.ensures.some)

pub first_run-place-requires-clause-some : goal.first_run-place-requires-clause-some
first_run-place-requires-clause-some g t c = omega (arith, c.loop-done-test.true, ap length c.later_keys.ensures, length-drop c.loop-done.done c.args.keys.now)
