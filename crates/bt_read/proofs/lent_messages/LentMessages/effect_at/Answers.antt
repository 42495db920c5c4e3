use Rattle.std.proofs.Common.{subst, sym}
use Rattle.std.proofs.lemmas.Result.{IfOk-weaker}
use Rattle.bt_keycode.specs.Keys.{IsSorted}
use Rattle.bt_message.specs.Effects.{effect_of}
use Rattle.bt_read.specs.inside.ValuesSoFar.{option_of}
use Rattle.bt_read.proofs.lemmas.code.LentMessages.{in_parts, rest_sorted_from}
use Rattle.bt_read.proofs.lemmas.code.LookupPath.{left_from, two_parts}
use Rattle.bt_form.proofs.offered.keys.SortedLists.{sorted-back, sorted-prefix}
use Rattle.bt_read.proofs.lent_messages.LentMessages.effect_at.Goals as goal

pub lent_from-earlier-requires : goal.lent_from-earlier-requires
lent_from-earlier-requires g c =
    let parts = in_parts (λ m. (m.key.now, m.message.now)) c.as_slices.result.0.now c.as_slices.result.1.now c.self.inside.messages.items c.args.self.now c.as_slices.ensures.items c.self.view_is in
    sorted-prefix _ _ (subst IsSorted (sym parts) c.requires)

pub lent_from-later-requires : goal.lent_from-later-requires
lent_from-later-requires g c =
    let parts = in_parts (λ m. (m.key.now, m.message.now)) c.as_slices.result.0.now c.as_slices.result.1.now c.self.inside.messages.items c.args.self.now c.as_slices.ensures.items c.self.view_is in
    sorted-back _ _ (subst IsSorted (sym parts) c.requires)

pub after_lent-requires-clause-sorted : goal.after_lent-requires-clause-sorted
after_lent-requires-clause-sorted g c =
    let parts = in_parts (λ m. (m.key.now, m.message.now)) c.as_slices.result.0.now c.as_slices.result.1.now c.self.inside.messages.items c.args.self.now c.as_slices.ensures.items c.self.view_is in
    rest_sorted_from c.args.key.now _ _ (sorted-prefix _ _ (subst IsSorted (sym parts) c.requires)) c.lent_from-earlier.ensures

pub after_lent-requires-clause-from : goal.after_lent-requires-clause-from
after_lent-requires-clause-from g c = left_from (effect_of g.V.Merge.terms.merged) c.args.key.now _ _ c.lent_from-earlier.ensures

pub after_lent-requires-2-clause-sorted : goal.after_lent-requires-2-clause-sorted
after_lent-requires-2-clause-sorted g c =
    let parts = in_parts (λ m. (m.key.now, m.message.now)) c.as_slices.result.0.now c.as_slices.result.1.now c.self.inside.messages.items c.args.self.now c.as_slices.ensures.items c.self.view_is in
    rest_sorted_from c.args.key.now _ _ (sorted-back _ _ (subst IsSorted (sym parts) c.requires)) c.lent_from-later.ensures

pub after_lent-requires-2-clause-from : goal.after_lent-requires-2-clause-from
after_lent-requires-2-clause-from g c = left_from (effect_of g.V.Merge.terms.merged) c.args.key.now _ _ c.lent_from-later.ensures

pub returns : goal.returns
returns g c =
    let parts = in_parts (λ m. (m.key.now, m.message.now)) c.as_slices.result.0.now c.as_slices.result.1.now c.self.inside.messages.items c.args.self.now c.as_slices.ensures.items c.self.view_is in
    IfOk-weaker c.after_lent-2.result _ _
    (λ value e. two_parts (effect_of g.V.Merge.terms.merged) c.args.key.now _ _ c.args.self.now _ _ (option_of c.args.old) (option_of c.in_ok-value.value)
    (option_of value) parts c.lent_from-earlier.ensures c.lent_from-later.ensures
    c.in_ok-value.ensures e)
    c.after_lent-2.ensures
