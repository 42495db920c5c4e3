use Rattle.std.proofs.Common.{length, ◌-◌, ◌+◌, ◌≡◌, ◌≤◌, drop}
use Rattle.bt_script.specs.Commands.{commands}
use Rattle.bt_script.specs.Streams.{has_failed}
use Rattle.bt_shell.specs.Runs.{refused_count}
use Rattle.bt_shell.proofs.Turns.{HasLogged}
use Rattle.bt_shell.proofs.script_run.run_commands.Given as goal

-- some commands have their whole replies, and the others are those from here on
abbrev pub invariant-commands : goal.invariant-commands
invariant-commands g l = record {
  counted : refused_count l.fn.table (commands l.script) ≡ l.refused + refused_count l.table (commands (drop l.at l.script));
  few : l.refused ≤ l.at;
  within : l.at ≤ length l.script;
  healthy : has_failed l.writer ≡ has_failed l.fn.writer;
  logs : HasLogged g.W.Write.contents g.L.CommandLog.added l.fn.writer l.writer l.fn.log l.log l.fn.table l.table (commands l.script) (commands (drop l.at l.script));
}

abbrev pub decreases-commands : goal.decreases-commands
decreases-commands g l = length l.script - l.at
