use Rattle.std.proofs.Common.{rules, [], ◌≡◌, ◌∷◌, ◌++◌, ap, map, subst, sym, ◌∙◌}
use Rattle.std.proofs.lemmas.List.{nil_from_length}
use Rattle.bt_message.specs.Effects.{effect_of}
use Rattle.bt_keycode.specs.Keys.{IsSorted}
use Rattle.bt_form.specs.Parts.{AreRising}
use Rattle.bt_form.specs.Portions.{value_in}
use Rattle.bt_read.specs.inside.ValuesSoFar.{option_of}
use Rattle.bt_read.specs.inside.Together.{values_after}
use Rattle.bt_read.proofs.lemmas.code.ChildBounds.{rest_rises}
use Rattle.bt_read.proofs.lemmas.code.LentMessages.{past_in_order}
use Rattle.bt_read.proofs.lemmas.code.PortionSteps.{value_more, values_end, values_held}
use Rattle.bt_read.proofs.lemmas.code.Together.{IsAdded, first_of}
use Rattle.bt_read.proofs.portions.Portion.values.Goals as goal

pub loop-old-init : goal.loop-old-init
loop-old-init g c =
    let effect = effect_of g.V.Merge.terms.merged in
    let newer = c.self.inside.newer in
    let order = c.self.invariant.0 in
    let keys = c.args.keys.now in
    let olds = c.into_iter-old-iterator.result.rest.items in
    let given : olds ≡ c.in_ok-below.below.items = search rules in
    let none : c.in_ok-values.values.items ≡ [] = search rules in
    record {
      values = ap (λ vs. vs ++ values_after effect newer (map (λ k. k.now) keys) (map option_of olds)) none
          ∙ ap (λ os. values_after effect newer (map (λ k. k.now) keys) (map option_of os)) given
          ∙ ap (values_after effect newer (map (λ k. k.now) keys)) c.in_ok-below.ensures
          ∙ values_held effect newer (λ k. k.now) c.self.inside.node.now order.0 order.1 order.2 order.3 keys
          ∙ ap (λ p. map (λ k. value_in effect k.now p) keys) c.self.view_is;
      rising = c.requires.rising;
      sorted = c.self.invariant.1;
    }

pub loop-old-preserved : goal.loop-old-preserved
loop-old-preserved g c =
    let effect = effect_of g.V.Merge.terms.merged in
    let here = first_of c.loop-old.rest.now c.key-item.result c.in-len1-up.len_at_least c.key-item.is in
    let rising = c.loop-old.invariant.rising in
    let olds : c.loop-old.old-iterator.rest.items ≡ c.in-Some.old ∷ c.next.new.self.rest.items = search rules in
    let left = c.in_ok-held.ensures.left in
    let added : IsAdded effect c.loop-old.newer (map (λ k. k.now) c.loop-old.rest.now) _ (map option_of c.loop-old.old-iterator.rest.items) (map option_of c.next.new.self.rest.items)
    c.loop-old.values.items c.push.new.self.items = record {
      key = c.key-item.result.now;
      old = option_of c.in-Some.old;
      now = c.in_ok-into_value.field-0;
      keys_are = ap (map (λ k. k.now)) here;
      olds_are = ap (map option_of) olds;
      now_is = c.in_ok-into_value.ensures ∙ c.in_ok-held.ensures.value;
      new_are = c.in_ok-push.ensures.items;
    } in
    record {
      values = value_more effect c.loop-old.newer added left rising c.loop-old.invariant.values;
      rising = rest_rises _ _ (subst (λ ks. AreRising (map (λ k. k.now) ks)) here rising);
      sorted = subst IsSorted (sym left) (past_in_order c.key-item.result.now c.loop-old.newer c.loop-old.invariant.sorted);
    }

pub returns : goal.returns
returns g c =
    let effect = effect_of g.V.Merge.terms.merged in
    let left : c.loop-old.old-iterator.rest.items ≡ [] = nil_from_length c.loop-old.old-iterator.rest.items (search rules) in
    values_end effect c.loop-old.newer (map (λ k. k.now) c.loop-old.rest.now) (map option_of c.loop-old.old-iterator.rest.items) c.loop-old.values.items _
    (ap (map option_of) left) c.loop-old.invariant.values
