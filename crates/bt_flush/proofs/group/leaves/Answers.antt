use Rattle.std.proofs.Common.{◌≡◌, ◌≤◌, ◌∷◌, ◌++◌, ◌∙◌, [], ap, arith, length, map, subst, sym}
use Rattle.std.proofs.lemmas.Result.{IfOk-weaker}
use Rattle.std.proofs.lemmas.List.{nil_from_length}
use Rattle.bt_message.specs.declared.message.Message.{Message}
use Rattle.bt_form.specs.Deals.{deal}
use Rattle.bt_flush.proofs.lemmas.code.GroupLoops.{leaves_done, more_leaves, one_leaf}
use Rattle.bt_form.proofs.offered.deals.Parts.{NonEmpty}
use Rattle.bt_form.proofs.offered.flushes.Groups.{as_leaf, deal-some}
use Rattle.bt_flush.proofs.group.leaves.Goals as goal

pub returns-then-len-most : goal.returns-then-len-most
returns-then-len-most g c =
    let some : 1 ≤ c.args.shape.leaf = omega (arith, c.leaf-most.ensures.value, c.leaf-most.ensures.range.0) in
    let few : length c.args.rows ≤ c.args.shape.leaf = omega (arith, c.if-len-most.true, c.len.ensures, c.leaf-most.ensures.value) in
    IfOk-weaker c.with_capacity.result _ _ (λ siblings e. e ∙ ap (λ t. ([], t) ∷ []) c.leaf.ensures ∙ sym (one_leaf c.args.shape c.args.rows some few)) c.with_capacity.ensures

pub unreachable-requires : goal.unreachable-requires
unreachable-requires g c =
    let dealt = c.in_ok-dealt.ensures in
    let it = c.into_iter-parts.result.rest in
    let none = sym c.into_iter-parts.ensures.rest ∙ nil_from_length it.items (omega (arith, it.ok.0, c.in_default.ensures.cases.0)) in
    subst NonEmpty (sym dealt ∙ none) (deal-some c.leaf-most.result c.args.rows (omega arith))

pub loop-part-preserved : goal.loop-part-preserved
loop-part-preserved g c =
    let M = Message g.row.V.Denot g.row.V-Delta.Denot in
    let part = c.in-Some-part.part in
    let left = c.next-in-loop-part.new.self.rest.items in
    let made = c.in_ok-push.ensures ∙ ap (λ t. c.loop-part.siblings ++ (c.in_ok-pivot.pivot, t) ∷ []) c.leaf-in-loop-part.ensures in
    ap (λ xs. xs ++ map (as_leaf M) left) made
    ∙ more_leaves c.loop-part.siblings c.in_ok-pivot.pivot part left c.in_ok-pivot.ensures
    ∙ ap (λ ps. c.loop-part.siblings ++ map (as_leaf M) ps) (sym c.in-Some-part.ensures.steps.0) ∙ c.loop-part.invariant

pub returns : goal.returns
returns g c =
    let parts = c.in_ok-dealt.dealt.items in
    let rest = c.into_iter-part-iterator.result.rest.items in
    let first = c.in-Some.first in
    let it = c.loop-part.part-iterator.rest in
    let dealt = c.in_ok-dealt.ensures ∙ ap (λ n. deal n c.args.rows) c.leaf-most.ensures.value in
    let split : parts ≡ first ∷ rest = sym c.into_iter-parts.ensures.rest ∙ c.in-Some.ensures.items ∙ ap (λ it. first ∷ it.rest.items) (sym c.into_iter-part-iterator.ensures.into_iter_gives) in
    let empty : it.items ≡ [] = nil_from_length it.items (omega (arith, it.ok.0, c.in-None.ensures.steps.0)) in
    let start = c.in_ok-siblings.ensures ∙ ap (λ t. ([], t) ∷ []) c.leaf-2.ensures in
    leaves_done c.args.shape c.args.rows parts first rest it.items c.in_ok-siblings.siblings c.loop-part.siblings dealt split start c.loop-part.invariant empty
