use Rattle.std.proofs.Common.{rules, ◌∙◌, ap, sym, subst, arith}
use Rattle.std.proofs.lemmas.Result.{IfOk-weaker}
use Rattle.bt_message.specs.Messages.{sorted_batch}
use Rattle.bt_fanout.specs.Promises.{TurnsIndex}
use Rattle.bt_fanout.proofs.Turning.{all_sent, one_more, turns_index}
use Rattle.bt_fanout.proofs.entry_packet.index_packet.Goals as goal

pub loop-effect-preserved : goal.loop-effect-preserved
loop-effect-preserved c =
    one_more c.args.def.now c.args.cover.now c.args.effects.now c.loop-effect.effect-index c.effect-item.result _ c.loop-effect.messages.items c.add_effect.new.messages.items
    (omega arith) c.effect-item.is c.loop-effect.invariant (search rules)

pub returns-clause-turns : goal.returns-clause-turns
returns-clause-turns c =
    let def = c.args.def.now in
    let cover = c.args.cover.now in
    let effects = c.args.effects.now in
    let all = all_sent def cover effects c.loop-effect.effect-index _ c.loop-effect.messages.items (omega arith) c.loop-effect.invariant in
    IfOk-weaker c.from_batch.result _ _ (λ packet e. subst (TurnsIndex def cover effects) (sym (e ∙ ap sorted_batch all)) (turns_index def cover effects)) c.from_batch.ensures.messages
