use Rattle.std.proofs.Common.{◌≡◌, ◌++◌}
use Rattle.bt_keycode.specs.Keys.{IsSorted}
use Rattle.bt_message.specs.Messages.{with_messages}
use Rattle.bt_read.proofs.lent_messages.with_messages.Given as goal

-- the messages so far, and then the others
abbrev pub invariant-loop-key : goal.invariant-loop-key
invariant-loop-key g l = record {
  wanted : l.messages ++ with_messages l.newer l.key-iterator ≡ with_messages l.fn.newer l.fn.older;
  sorted : IsSorted l.newer;
}
