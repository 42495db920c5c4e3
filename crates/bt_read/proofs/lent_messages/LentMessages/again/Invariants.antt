use Rattle.std.proofs.Common.{◌≡◌, ◌++◌, map}
use Rattle.std.specs.VecDeque.Iter.{deque_iter_rest}
use Rattle.bt_read.proofs.lent_messages.LentMessages.again.Given as goal

abbrev pub invariant-loop-entry : goal.invariant-loop-entry
invariant-loop-entry g l = l.copy ++ map (λ m. (m.key.now, m.message.now)) (deque_iter_rest l.entry-iterator) ≡ l.fn.self
