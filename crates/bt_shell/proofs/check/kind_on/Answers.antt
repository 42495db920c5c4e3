use Rattle.std.proofs.Common.{rules, ◌≡◌, Err}
use Rattle.bt_shell.specs.Logs.{permitted}
use Rattle.bt_shell.specs.Steps.{outcome}
use Rattle.bt_shell.proofs.Checks.{kind_refused}
use Rattle.bt_shell.proofs.check.kind_on.Goals as goal

pub returns-in-Err : goal.returns-in-Err
returns-in-Err c =
    let held : permitted (outcome c.args.table.now c.args.command) ≡ Err c.in-Err.field-0 = search rules in
    kind_refused c.args.command (outcome c.args.table.now c.args.command) c.in-Err.field-0 held
