use Rattle.std.proofs.Common.{◌≡◌}
use Rattle.bt_keycode.specs.Keys.{AllFrom, IsSorted}
use Rattle.bt_message.specs.Effects.{effect_of}
use Rattle.bt_form.specs.Messages.{value_after}
use Rattle.bt_read.specs.inside.ValuesSoFar.{option_of}
use Rattle.bt_read.proofs.lookup.after_messages.Given as goal

-- the value so far after the messages that are left
abbrev pub invariant-loop-at : goal.invariant-loop-at
invariant-loop-at g l = record {
  value : value_after (effect_of g.V.Merge.terms.merged) l.key l.fn.messages (option_of l.fn.old) ≡ value_after (effect_of g.V.Merge.terms.merged) l.key l.at-iterator (option_of l.value);
  from : AllFrom l.key l.at-iterator;
  sorted : IsSorted l.at-iterator;
}
