use Rattle.std.proofs.Common.{◌≡◌, None, Some, ◌∙◌, ap, arith, rules, subst, sym}
use Rattle.std.proofs.lemmas.Result.{IfOk-weaker}
use Rattle.bt_value.specs.Lists.{concatenation}
use Rattle.bt_messages.specs.Bins.{LieBetween}
use Rattle.bt_message.specs.Effects.{effect_of}
use Rattle.bt_form.specs.inside.NodeKinds.{HasBins, tree_of}
use Rattle.bt_read.specs.inside.Lookups.{tree_value}
use Rattle.bt_read.specs.inside.ValuesSoFar.{option_of}
use Rattle.bt_read.proofs.lemmas.code.LookupPath.{IsChildAt, along, along_reset, begins_at}
use Rattle.bt_read.proofs.lemmas.code.PivotSearch.{pivots_rise}
use Rattle.bt_read.proofs.offered.RowsOfChildren.{child_in_order, child_lower}
use Rattle.bt_form.proofs.offered.code.SiblingParts.{pivot_within}
use Rattle.bt_read.proofs.lemmas.lookups.BinOfKey.{begins-bin, bin-there}
use Rattle.bt_read.proofs.lookup.+tree_value.Goals as goal

pub tree_value-requires : goal.tree_value-requires
tree_value-requires g t c κs within =
    let here = c.kind.ensures.tree ∙ ap tree_of c.in-Inner.is in
    let below = pivot_within c.in-Inner.children c.nodes.result.now c.pivots.result.now c.pivots_up_to-place.result c.nodes.ensures c.pivots.ensures.pivots
    c.pivots.ensures.some c.pivots_up_to-place.ensures.bound in
    let less = child_lower c.args.node.now c.in-Inner.children (concatenation c.in-Inner.bins) here c.nodes.result.now c.nodes.ensures
    c.pivots_up_to-place.result c.index-nodes-place.result below c.index-nodes-place.is in
    let order = child_in_order c.args.node.now c.in-Inner.children (concatenation c.in-Inner.bins) here c.nodes.result.now c.nodes.ensures
    c.pivots_up_to-place.result c.index-nodes-place.result below c.index-nodes-place.is c.requires in
    (omega (arith, less, c.decreases), (within.0, (within.1, order)))

pub pivots_up_to-place-requires : goal.pivots_up_to-place-requires
pivots_up_to-place-requires g t c =
    pivots_rise c.args.node.now c.in-Inner.children (concatenation c.in-Inner.bins) c.pivots.result.now (c.kind.ensures.tree ∙ ap tree_of c.in-Inner.is) c.pivots.ensures.pivots c.requires

pub since_reset-start-requires : goal.since_reset-start-requires
since_reset-start-requires g t c =
    bin-there c.pivots.result.now c.in-Inner.bins c.pivots_up_to-place.result
    (subst (λ ps. LieBetween ps c.in-Inner.bins) (sym c.pivots.ensures.pivots) (subst HasBins c.in-Inner.is c.kind.ensures.divided)) c.pivots_up_to-place.ensures.bound

pub bounds-nodes-place : goal.bounds-nodes-place
bounds-nodes-place g t c =
    pivot_within c.in-Inner.children c.nodes.result.now c.pivots.result.now c.pivots_up_to-place.result c.nodes.ensures c.pivots.ensures.pivots c.pivots.ensures.some c.pivots_up_to-place.ensures.bound

pub returns-in-Leaf : goal.returns-in-Leaf
returns-in-Leaf g t c =
    c.of.ensures ∙ c.find.ensures ∙ sym (ap (tree_value (effect_of g.V.Merge.terms.merged) c.args.key.now) (c.kind.ensures.tree ∙ ap tree_of c.in-Leaf.is))

pub returns-in-Some : goal.returns-in-Some
returns-in-Some g t c =
    let effect = effect_of g.V.Merge.terms.merged in
    let k = c.args.key.now in
    let here = c.kind.ensures.tree ∙ ap tree_of c.in-Inner.is in
    let lie = subst (λ ps. LieBetween ps c.in-Inner.bins) (sym c.pivots.ensures.pivots) (subst HasBins c.in-Inner.is c.kind.ensures.divided) in
    let begins = begins-bin effect k c.pivots.result.now c.in-Inner.bins c.pivots_up_to-place.result c.since_reset-start.result.left
    c.since_reset-start.result.start lie c.pivots_up_to-place.ensures.count c.since_reset-start.ensures.value in
    let is : c.since_reset-start.result.start ≡ Some c.in-Some.held = search rules in
    IfOk-weaker c.after_messages.result _ _ (λ value e. e
    ∙ along_reset effect k c.in-Inner.children (concatenation c.in-Inner.bins) c.since_reset-start.result.left c.args.node.now c.since_reset-start.result.start
    c.in-Some.held here begins is) c.after_messages.ensures

pub returns-in_ok-old-in-Inner : goal.returns-in_ok-old-in-Inner
returns-in_ok-old-in-Inner g t c =
    let effect = effect_of g.V.Merge.terms.merged in
    let k = c.args.key.now in
    let child : IsChildAt c.args.node.now c.index-nodes-place.result (concatenation c.in-Inner.bins) c.pivots.result.now c.pivots_up_to-place.result = record {
      siblings = c.in-Inner.children;
      trees = c.nodes.result.now;
      node_is = c.kind.ensures.tree ∙ ap tree_of c.in-Inner.is;
      trees_are = c.nodes.ensures;
      pivots_are = c.pivots.ensures.pivots;
      some = c.pivots.ensures.some;
      at = c.index-nodes-place.is;
    } in
    let lie = subst (λ ps. LieBetween ps c.in-Inner.bins) (sym c.pivots.ensures.pivots) (subst HasBins c.in-Inner.is c.kind.ensures.divided) in
    let begins = begins-bin effect k c.pivots.result.now c.in-Inner.bins c.pivots_up_to-place.result c.since_reset-start.result.left
    c.since_reset-start.result.start lie c.pivots_up_to-place.ensures.count c.since_reset-start.ensures.value in
    let none : c.since_reset-start.result.start ≡ None = search rules in
    IfOk-weaker c.after_messages-in-Inner.result _ _ (λ value e. e
    ∙ begins_at effect k (concatenation c.in-Inner.bins) c.since_reset-start.result.left c.since_reset-start.result.start None (option_of c.in_ok-old-in-Inner.old) begins none
    ∙ along effect k child c.pivots_up_to-place.ensures.count c.in_ok-old-in-Inner.ensures) c.after_messages-in-Inner.ensures
