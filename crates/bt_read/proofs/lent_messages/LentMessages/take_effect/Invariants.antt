use Rattle.std.proofs.Common.{◌≡◌, length}
use Rattle.bt_keycode.specs.Keys.{AllFrom, IsSorted}
use Rattle.bt_message.specs.Effects.{effect_of}
use Rattle.bt_message.specs.Messages.{messages_past}
use Rattle.bt_form.specs.Messages.{value_after}
use Rattle.bt_read.specs.inside.ValuesSoFar.{option_of}
use Rattle.bt_read.proofs.lent_messages.LentMessages.take_effect.Given as goal

-- the value so far after the messages that are left
abbrev pub invariant-loop-message : goal.invariant-loop-message
invariant-loop-message g l = record {
  value : value_after (effect_of g.V.Merge.terms.merged) l.key l.fn.self (option_of l.fn.old) ≡ value_after (effect_of g.V.Merge.terms.merged) l.key l.self (option_of l.value);
  left : messages_past l.key l.fn.self ≡ messages_past l.key l.self;
  from : AllFrom l.key l.self;
  sorted : IsSorted l.self;
}

abbrev pub decreases-loop-message : goal.decreases-loop-message
decreases-loop-message g l = length l.self
