use Rattle.std.proofs.Common.{◌≡◌, ◌++◌, None, length}
use Rattle.std.specs.Option.{option_copied}
use Rattle.bt_keycode.specs.Keys.{IsSorted}
use Rattle.bt_message.specs.Messages.{messages_between, messages_outside}
use Rattle.bt_read.proofs.lent_messages.LentMessages.take_before.Given as goal

abbrev pub invariant-loop-key : goal.invariant-loop-key
invariant-loop-key g l = record {
  taken : l.taken ++ messages_between None (option_copied l.high) l.self ≡ messages_between None (option_copied l.high) l.fn.self;
  left : messages_outside None (option_copied l.high) l.self ≡ messages_outside None (option_copied l.high) l.fn.self;
  sorted : IsSorted l.self;
}

abbrev pub decreases-loop-key : goal.decreases-loop-key
decreases-loop-key g l = length l.self
