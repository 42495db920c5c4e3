use Rattle.std.proofs.Common.{◌∙◌}
use Rattle.bt_keycode.specs.Keys.{Key}
use Rattle.bt_message.specs.Effects.{effect_of}
use Rattle.bt_message.specs.declared.message.Message.{Message}
use Rattle.bt_read.specs.inside.ValuesSoFar.{option_of}
use Rattle.bt_read.proofs.lemmas.code.LentMessages.{none_applied, one_applied, one_past, past_left, rest_from_key, rest_in_order}
use Rattle.bt_read.proofs.lent_messages.LentMessages.take_effect.Goals as goal

pub loop-message-preserved : goal.loop-message-preserved
loop-message-preserved g c =
    let effect = effect_of g.V.Merge.terms.merged in
    let k = c.args.key.now in
    let so_far = c.loop-message.invariant in
    let m : Key × Message g.row.V.Denot g.row.V-Delta.Denot = (c.in-Some.field-0-0.now, c.in-Some.message.now) in
    let here = c.in-Some.ensures.first in
    record {
      value = one_applied effect k m c.loop-message.self c.next_up_to.new.self (option_of c.loop-message.value) (option_of c.in_ok-value.value) _ here
          c.in-Some.ensures.none so_far.from c.in_ok-value.ensures so_far.value;
      left = one_past k m c.loop-message.self c.next_up_to.new.self _ here c.in-Some.ensures.none so_far.left;
      from = rest_from_key k m c.loop-message.self c.next_up_to.new.self here so_far.from;
      sorted = rest_in_order m c.loop-message.self c.next_up_to.new.self here so_far.sorted;
    }

pub returns-clause-value : goal.returns-clause-value
returns-clause-value g c =
    none_applied (effect_of g.V.Merge.terms.merged) c.args.key.now c.loop-message.self (option_of c.loop-message.value) _ c.in_default.ensures.none
    c.loop-message.invariant.sorted c.loop-message.invariant.value

pub returns-clause-left : goal.returns-clause-left
returns-clause-left g c = c.in_default.ensures.first ∙ past_left c.args.key.now c.loop-message.self _ c.in_default.ensures.none c.loop-message.invariant.left
