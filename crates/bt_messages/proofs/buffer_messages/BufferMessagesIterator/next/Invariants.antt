use Rattle.std.proofs.Common.{◌≡◌, ◌++◌, length}
use Rattle.bt_value.specs.Lists.{concatenation}
use Rattle.bt_messages.proofs.buffer_messages.BufferMessagesIterator.next.Given as goal

abbrev pub invariant-loop-self : goal.invariant-loop-self
invariant-loop-self g l = l.self-inside.first ++ concatenation l.self-inside.others.now ≡ l.fn.self

abbrev pub decreases-loop-self : goal.decreases-loop-self
decreases-loop-self g l = length l.self-inside.others.now
