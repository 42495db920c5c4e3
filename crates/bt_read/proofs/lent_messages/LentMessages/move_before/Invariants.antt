use Rattle.std.proofs.Common.{◌≡◌, ◌++◌, length}
use Rattle.bt_keycode.specs.Keys.{IsSorted}
use Rattle.bt_form.specs.Messages.{before, from}
use Rattle.bt_read.proofs.lent_messages.LentMessages.move_before.Given as goal

abbrev pub invariant-loop-at : goal.invariant-loop-at
invariant-loop-at g l = record {
  moved : l.self ++ before l.key l.others ≡ l.fn.self ++ before l.key l.fn.others;
  left : from l.key l.others ≡ from l.key l.fn.others;
  sorted : IsSorted l.others;
}

abbrev pub decreases-loop-at : goal.decreases-loop-at
decreases-loop-at g l = length l.others
