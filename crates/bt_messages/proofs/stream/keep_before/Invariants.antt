use Rattle.std.proofs.Common.{◌≡◌}
use Rattle.bt_messages.proofs.stream.keep_before.Given as goal

abbrev pub invariant-loop-run : goal.invariant-loop-run
invariant-loop-run g l = l.runs.items ≡ l.fn.runs.items
