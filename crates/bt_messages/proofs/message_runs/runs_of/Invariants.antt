use Rattle.std.proofs.Common.{◌≡◌, ◌++◌}
use Rattle.bt_value.specs.Lists.{concatenation}
use Rattle.bt_messages.specs.inside.Runs.{AreSome}
use Rattle.bt_messages.proofs.message_runs.runs_of.Given as goal

abbrev pub invariant-loop-entry : goal.invariant-loop-entry
invariant-loop-entry g l = record {
  all : (concatenation l.runs.items ++ l.run.items) ++ l.entry-iterator.rest.items ≡ l.fn.messages.items;
  some : AreSome l.runs.items;
}
