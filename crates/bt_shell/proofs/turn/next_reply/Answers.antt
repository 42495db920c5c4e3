use Rattle.std.proofs.Common.{refl, Ok, Err, ap, drop}
use Rattle.bt_script.specs.Commands.{commands}
use Rattle.bt_shell.specs.Logs.{is_refusal}
use Rattle.bt_shell.proofs.Faults.{left_as_it_was, left_by_command}
use Rattle.bt_shell.proofs.Turns.{on_err}
use Rattle.bt_shell.proofs.turn.next_reply.Goals as goal

pub returns-in_ok-reply-in-Bad-clause-step : goal.returns-in_ok-reply-in-Bad-clause-step
returns-in_ok-reply-in-Bad-clause-step g c = record {
  answer = Err c.in-Bad.refusal;
  first = rw c.in-Bad.is at c.in_ok-parse.ensures.found;
  said = c.in_ok-reply-in-Bad.ensures.text;
  left = refl;
  judged = ap is_refusal c.in_ok-reply-in-Bad.ensures.refused;
}

pub returns-in_ok-reply-in-Good-clause-step : goal.returns-in_ok-reply-in-Good-clause-step
returns-in_ok-reply-in-Good-clause-step g c = record {
  answer = Ok c.in-Good.command;
  first = rw c.in-Good.is at c.in_ok-parse.ensures.found;
  said = c.in_ok-reply-in-Good.ensures.text;
  left = c.in_ok-reply-in-Good.ensures.state;
  judged = ap is_refusal c.in_ok-reply-in-Good.ensures.kind;
}

-- out of memory: no command is read, its refusal has no text, or the command is cut short
pub returns-in_err-parse-clause-left : goal.returns-in_err-parse-clause-left
returns-in_err-parse-clause-left g c = on_err c.from_residual.result _ (left_as_it_was c.args.table.now c.args.table.now (commands (drop c.args.at c.args.script.now)) refl)

pub returns-in_err-reply-in-Bad-clause-left : goal.returns-in_err-reply-in-Bad-clause-left
returns-in_err-reply-in-Bad-clause-left g c = on_err c.from_residual-in_err-reply-in-Bad.result _ (left_as_it_was c.args.table.now c.args.table.now (commands (drop c.args.at c.args.script.now)) refl)

pub returns-in_err-reply-in-Good-clause-left : goal.returns-in_err-reply-in-Good-clause-left
returns-in_err-reply-in-Good-clause-left g c =
    let all = commands (drop c.args.at c.args.script.now) in
    let others = commands (drop c.in-Good.next c.args.script.now) in
    on_err c.from_residual-in_err-reply-in-Good.result _
    (left_by_command c.args.table.now _ c.in-Good.command all others (rw c.in-Good.is at c.in_ok-parse.ensures.found) c.in_err-reply-in-Good.ensures.left)
