use Rattle.std.proofs.Common.{◌≡◌, length, take}
use Rattle.bt_value.specs.Lists.{concatenation}
use Rattle.bt_messages.proofs.stream.count_of.Given as goal

abbrev pub invariant-loop-run : goal.invariant-loop-run
invariant-loop-run g l = l.messages ≡ length (concatenation (take l.run l.runs.items))
