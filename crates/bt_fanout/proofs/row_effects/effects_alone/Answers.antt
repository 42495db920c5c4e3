use Rattle.std.proofs.Common.{◌∙◌, ap, map}
use Rattle.std.proofs.lemmas.Result.{IfOk-weaker}
use Rattle.std.specs.FinMap.{find}
use Rattle.bt_keycode.specs.Keys.{key_cmp}
use Rattle.bt_form.specs.Flushes.{holds}
use Rattle.bt_fanout.specs.Effects.{row_effect}
use Rattle.bt_fanout.specs.inside.Groups.{effects_in}
use Rattle.bt_fanout.proofs.GroupEffects.{effects_are}
use Rattle.bt_fanout.proofs.row_effects.effects_alone.Goals as goal

pub returns : goal.returns
returns c =
    let rows = holds row_effect c.args.tree.now.1 in
    let keys = c.in_ok-keys.field-0.keys.items in
    let others = c.in_ok-keys.field-0.others.items in
    let before = c.in_ok-rows.rows.items in
    let found = c.in_ok-rows.ensures ∙ ap (map (λ k. find key_cmp k.now (holds row_effect c.walk.result))) c.as_slice.ensures.value
    ∙ ap (λ t. map (λ k. find key_cmp k.now (holds row_effect t)) keys) c.walk.ensures.root in
    IfOk-weaker c.effects_on.result _ _
    (λ effects is. is
    ∙ ap (λ ks. effects_in (map (λ k. k.now) ks) c.as_slice-3.result.now before c.iter.result) c.as_slice-2.ensures.value
    ∙ ap (λ ns. effects_in (map (λ k. k.now) keys) ns before c.iter.result) c.as_slice-3.ensures.value
    ∙ ap (effects_in (map (λ k. k.now) keys) others before) c.iter.ensures.messages
    ∙ effects_are (λ k. k.now) c.args.cover.now c.args.packet.now keys others c.in_ok-keys.ensures.keys c.in_ok-keys.ensures.others c.in_ok-keys.ensures.sorted rows before found)
    c.effects_on.ensures
