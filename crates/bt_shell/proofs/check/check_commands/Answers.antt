use Rattle.std.proofs.Common.{arith, rules, drop}
use Rattle.bt_script.specs.Commands.{commands}
use Rattle.bt_shell.specs.Logs.{checked}
use Rattle.bt_shell.proofs.Checks.{check_ends, check_goes_on}
use Rattle.bt_shell.proofs.check.check_commands.Goals as goal

pub commands-preserved : goal.commands-preserved
commands-preserved g c =
    let script = c.args.script.now in
    let next = rw c.in-Some.is at c.in_ok-kind.ensures.step in
    let past = rw c.in-Some.is at c.in_ok-kind.ensures.past in (
      check_goes_on g.L.CommandLog.added (checked g.L.CommandLog.added c.args.log.now c.args.table.now (commands script)) c.commands.log c.add.new.self c.args.table.now
          (commands (drop c.commands.at script)) (commands (drop c.in-Some.next script)) c.in-Some.kind next c.in_ok-add.ensures.adds c.commands.invariant.0,
      past.1,
    )

pub returns : goal.returns
returns g c =
    let script = c.args.script.now in
    check_ends g.L.CommandLog.added (checked g.L.CommandLog.added c.args.log.now c.args.table.now (commands script)) c.commands.log c.args.table.now
    (commands (drop c.commands.at script)) c.commands.invariant.0 (search rules)
