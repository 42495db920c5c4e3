use Rattle.std.proofs.Common.{◌≡◌, ◌-◌, ◌≤◌, drop, length}
use Rattle.bt_script.specs.Commands.{commands}
use Rattle.bt_shell.specs.Logs.{checked}
use Rattle.bt_shell.proofs.check.check_commands.Given as goal

-- the log has the commands so far, and the others are those from here on
abbrev pub invariant-commands : goal.invariant-commands
invariant-commands g l =
    (checked g.L.CommandLog.added l.fn.log l.table (commands l.script) ≡ checked g.L.CommandLog.added l.log l.table (commands (drop l.at l.script)))
    × (l.at ≤ length l.script)

abbrev pub decreases-commands : goal.decreases-commands
decreases-commands g l = length l.script - l.at
