use Rattle.std.proofs.Common.{◌∙◌, ℕ, cond, ap, refl, subst, sym, true≢false}
use Rattle.std.proofs.lemmas.Result.{IfOk-weaker}
use Rattle.std.specs.FinMap.{find}
use Rattle.std.specs.Option.{option_copied}
use Rattle.bt_keycode.specs.Keys.{key_cmp}
use Rattle.bt_message.specs.Effects.{effect_of}
use Rattle.bt_form.specs.Flushes.{holds}
use Rattle.bt_form.specs.Portions.{HaveThere, all_rows, owners}
use Rattle.bt_form.proofs.offered.rows.Between.{empty_range, none_between}
use Rattle.bt_read.proofs.walk.Walk.portions.Goals as goal

pub returns-clause-values : goal.returns-clause-values
returns-clause-values g c =
    let effect = effect_of g.V.Merge.terms.merged in
    IfOk-weaker c.portions_at.result _ _
    (λ parts divided key. divided.values key (find key_cmp key (holds effect c.args.self.now)) ((λ owned. ap (λ t. find key_cmp key (holds effect t)) c.self.view_is), tt))
    c.portions_at.ensures

pub returns-clause-chained : goal.returns-clause-chained
returns-clause-chained g c = IfOk-weaker c.portions_at.result _ _ (λ parts divided key inside. divided.chained (option_copied c.args.from) (option_copied c.args.to) (refl, refl)) c.portions_at.ensures

pub returns-then-is_empty_range-clause-rows : goal.returns-then-is_empty_range-clause-rows
returns-then-is_empty_range-clause-rows g c =
    let from = option_copied c.args.from in
    let to = option_copied c.args.to in
    ap (all_rows (effect_of g.V.Merge.terms.merged)) c.new.ensures.items
    ∙ sym (none_between from to (holds (effect_of g.V.Merge.terms.merged) c.args.self.now)
    (empty_range c.args.from to c.is_empty_range.result c.is_empty_range.ensures c.if-is_empty_range.true))

pub returns-then-is_empty_range-clause-owners : goal.returns-then-is_empty_range-clause-owners
returns-then-is_empty_range-clause-owners g c key =
    ap (owners key) c.new.ensures.items ∙ ap {B =
    ℕ} (λ b. cond b 1 0) (sym (empty_range c.args.from (option_copied c.args.to) c.is_empty_range.result c.is_empty_range.ensures c.if-is_empty_range.true
    key))

pub returns-then-is_empty_range-clause-chained : goal.returns-then-is_empty_range-clause-chained
returns-then-is_empty_range-clause-chained g c key inside =
    absurd (true≢false (sym inside ∙ empty_range c.args.from (option_copied c.args.to) c.is_empty_range.result c.is_empty_range.ensures c.if-is_empty_range.true key))

pub returns-then-is_empty_range-clause-values : goal.returns-then-is_empty_range-clause-values
returns-then-is_empty_range-clause-values g c key =
    let effect = effect_of g.V.Merge.terms.merged in
    subst (HaveThere effect key (find key_cmp key (holds effect c.args.self.now))) (sym c.new.ensures.items) tt
