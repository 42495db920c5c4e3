use Rattle.std.proofs.Common.{◌≡◌, ◌++◌, ◌∷◌, [], None, false, ap, rules, subst, sym, option_to_list}
use Rattle.std.proofs.lemmas.List.{append-nil}
use Rattle.bt_message.specs.Effects.{effect_of}
use Rattle.bt_form.specs.Portions.{Divide}
use Rattle.bt_form.specs.Walks.{is_leaf}
use Rattle.bt_read.proofs.lemmas.code.PortionSteps.{child_added}
use Rattle.bt_read.proofs.portions.child_portions.Goals as goal

pub returns-in_default-others : goal.returns-in_default-others
returns-in_default-others g c =
    let effect = effect_of g.V.Merge.terms.merged in
    let none : c.in_ok-child.others ≡ None = search rules in
    let more = c.push-in-loop-parts.new.self.items in
    let added = child_added effect (c.args.portion ∷ []) c.loop-parts.parts.items more c.loop-parts.rest c.in_ok-child.child
    (option_to_list c.in_ok-child.others) c.in_ok-push-2.ensures.items c.in_ok-child.ensures.parts
    c.loop-parts.invariant.divided in
    subst (Divide effect (c.args.portion ∷ [])) (append-nil more) (subst (Divide effect (c.args.portion ∷ [])) (ap (λ o. more ++ option_to_list o) none) added)

pub loop-parts-preserved : goal.loop-parts-preserved
loop-parts-preserved g c =
    let effect = effect_of g.V.Merge.terms.merged in
    let more = c.push-in-loop-parts.new.self.items in
    let fewer = rw (c.in-Some.is) at c.in_ok-child.ensures.fewer in
    let added = child_added effect (c.args.portion ∷ []) c.loop-parts.parts.items more c.loop-parts.rest c.in_ok-child.child
    (option_to_list c.in_ok-child.others) c.in_ok-push-2.ensures.items c.in_ok-child.ensures.parts
    c.loop-parts.invariant.divided in
    record {
      divided = subst (Divide effect (c.args.portion ∷ [])) (ap (λ o. more ++ option_to_list o) c.in-Some.is) added;
      inner = subst (λ t. is_leaf t ≡ false) (sym fewer.0) c.loop-parts.invariant.inner;
    }
