use Rattle.std.proofs.Common.{◌∙◌, ap, subst, sym}
use Rattle.std.specs.List.{All}
use Rattle.bt_message.specs.Messages.{sorted_batch}
use Rattle.bt_form.specs.Flushes.{holds}
use Rattle.bt_fanout.specs.Effects.{SuitsEffect, effects_of, row_effect}
use Rattle.bt_fanout.proofs.offered.Covers.{effects-whole}
use Rattle.test_calls.specs.Quantities.{batch}
use Rattle.test_calls.proofs.BatchEffects.{suits_batch}
use Rattle.test_calls.proofs.indexes.batch_effects.Goals as goal

pub returns : goal.returns
returns c def suits keys =
    let packet = c.in_ok-packet.ensures.messages ∙ ap sorted_batch c.in_ok-batch.ensures in
    let found = c.in_ok-found.ensures ∙ effects-whole c.in_ok-packet.packet (holds row_effect c.in_ok-tree.tree.1)
    ∙ ap (λ p. effects_of p (holds row_effect c.in_ok-tree.tree.1)) packet ∙ ap (effects_of (sorted_batch batch)) c.in_ok-tree.ensures in
    subst (All (SuitsEffect def)) (sym found) (suits_batch def keys suits)
