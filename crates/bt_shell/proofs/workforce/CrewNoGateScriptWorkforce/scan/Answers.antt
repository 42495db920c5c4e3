use Rattle.std.proofs.Common.{rules, List, fold}
use Rattle.bt_keycode.specs.Keys.{Key}
use Rattle.bt_value.specs.Answers.{Answers}
use Rattle.bt_value.specs.declared.value.Value.{Value}
use Rattle.bt_value.specs.Results.{map_ok}
use Rattle.bt_shell.specs.inside.Lines.{with_line}
use Rattle.bt_shell.specs.Replies.{row_line}
use Rattle.bt_shell.proofs.workforce.CrewNoGateScriptWorkforce.scan.Goals as goal

pub returns-then-has_few_rows-clause-answer : goal.returns-then-has_few_rows-clause-answer
returns-then-has_few_rows-clause-answer g c =
    let shown : Answers (map_ok (fold (with_line (λ (row : Key × List Value). row_line row.1)) c.args.lines) _) c.scan_alone.result = c.scan_alone.ensures.answer in
    search rules

pub returns-clause-answer : goal.returns-clause-answer
returns-clause-answer g c =
    let shown : Answers (map_ok (fold (with_line (λ (row : Key × List Value). row_line row.1)) c.args.lines) _) c.scan.result = c.scan.ensures.answer in
    search rules
