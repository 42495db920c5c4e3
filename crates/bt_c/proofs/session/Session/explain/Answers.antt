use Rattle.std.proofs.Common.{IfOk, IfSome, subst}
use Rattle.bt_script.specs.Commands.{commands}
use Rattle.bt_shell.specs.Steps.{State}
use Rattle.bt_c.specs.Reasons.{FirstIsRefused}
use Rattle.bt_c.proofs.Refusals.{first_refused}
use Rattle.bt_c.proofs.session.Session.explain.Goals as goal

pub returns-clause-refused : goal.returns-clause-refused
returns-clause-refused c =
    subst (λ (table : State). IfOk c.script_reason.result (λ found. IfSome found (λ reason. FirstIsRefused table (commands c.args.script.now) reason.refusal))) c.table_asked.ensures
    (first_refused c.table_asked.result.now (commands c.args.script.now) c.script_reason.result c.script_reason.ensures.refused)
