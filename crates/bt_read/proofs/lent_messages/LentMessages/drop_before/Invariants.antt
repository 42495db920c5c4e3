use Rattle.std.proofs.Common.{◌≡◌, length}
use Rattle.bt_keycode.specs.Keys.{IsSorted}
use Rattle.bt_form.specs.Messages.{from}
use Rattle.bt_read.proofs.lent_messages.LentMessages.drop_before.Given as goal

abbrev pub invariant-loop : goal.invariant-loop
invariant-loop g l = record {
  left : from l.key l.self ≡ from l.key l.fn.self;
  sorted : IsSorted l.self;
}

abbrev pub decreases-loop : goal.decreases-loop
decreases-loop g l = length l.self
