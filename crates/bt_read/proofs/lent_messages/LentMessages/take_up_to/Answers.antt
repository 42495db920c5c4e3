use Rattle.std.proofs.Common.{◌∙◌, ap, sym}
use Rattle.std.proofs.lemmas.Result.{IfOk-weaker}
use Rattle.std.proofs.lemmas.Result.{on_ok_weaker}
use Rattle.bt_message.specs.Effects.{effect_of}
use Rattle.bt_message.specs.Messages.{messages_past}
use Rattle.bt_read.specs.inside.ValuesSoFar.{option_of}
use Rattle.bt_read.proofs.lemmas.code.LentMessages.{past_from, rest_sorted_from}
use Rattle.bt_read.proofs.lemmas.code.LookupPath.{all_left, left_from}
use Rattle.bt_read.proofs.lent_messages.LentMessages.take_up_to.Goals as goal

pub take_effect-requires-clause-sorted : goal.take_effect-requires-clause-sorted
take_effect-requires-clause-sorted g c = rest_sorted_from c.args.key.now c.args.self.now c.drop_before.new.self c.requires c.drop_before.ensures

pub take_effect-requires-clause-from : goal.take_effect-requires-clause-from
take_effect-requires-clause-from g c = left_from (effect_of g.V.Merge.terms.merged) c.args.key.now c.args.self.now c.drop_before.new.self c.drop_before.ensures

pub returns-clause-value : goal.returns-clause-value
returns-clause-value g c =
    let effect = effect_of g.V.Merge.terms.merged in
    IfOk-weaker c.take_effect.result _ _ (λ value e. e
    ∙ sym (all_left effect c.args.key.now c.args.self.now c.drop_before.new.self (option_of c.args.old) c.drop_before.ensures)) c.take_effect.ensures.value

pub returns-clause-left : goal.returns-clause-left
returns-clause-left g c =
    on_ok_weaker c.take_effect.result (λ left. left ∙ ap (messages_past c.args.key.now) c.drop_before.ensures ∙ past_from c.args.key.now c.args.self.now c.requires) c.take_effect.ensures.left
