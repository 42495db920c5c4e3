use Rattle.std.proofs.Common.{rules, ◌≡◌, ◌∙◌, Err, Some, ap, map, subst, sym}
use Rattle.std.specs.Option.{option_copied}
use Rattle.bt_value.specs.Answers.{Answers}
use Rattle.bt_value.proofs.offered.Exits.{answers_on_err}
use Rattle.bt_value.specs.Results.{map_ok}
use Rattle.bt_row.specs.Schemas.{is_schema}
use Rattle.bt_view.specs.Groups.{sums}
use Rattle.bt_view.specs.Ranges.{scan, scan_with_keys}
use Rattle.bt_shell.specs.Logs.{permitted}
use Rattle.bt_shell.specs.Replies.{scan_reply, sums_reply}
use Rattle.bt_shell.specs.Steps.{is_allowed, outcome, shape_of}
use Rattle.bt_shell.proofs.Checks.{created, of_mapped, of_read}
use Rattle.bt_shell.proofs.Definitions.{mapped}
use Rattle.bt_shell.proofs.Refusals.{exists_first}
use Rattle.bt_shell.proofs.check.check_of_table.Goals as goal

pub returns-in-Table : goal.returns-in-Table
returns-in-Table c = λ _.
    ap (λ command. permitted (outcome (Some c.args.table.now) command)) c.in-Table.is
    ∙ ap permitted (exists_first (is_schema c.in-Table._form.columns c.in-Table._form.keys)
    (is_allowed (shape_of c.in-Table._form.fanout c.in-Table._form.buffer c.in-Table._form.leaf)) _)

pub returns-in-Scan : goal.returns-in-Scan
returns-in-Scan c =
    let state = c.args.table.now in
    let tree = c.in-Scan.tree in
    let bounds = c.in-Scan.bounds in
    let from : option_copied c.as_ref.result ≡ bounds.from = search rules in
    let to : option_copied c.as_ref-in-Scan.result ≡ bounds.to = search rules in
    let same = ap (λ command. permitted (outcome (Some state) command)) c.in-Scan.is ∙ of_read state scan_reply (scan state tree bounds.from bounds.to)
    ∙ of_mapped (map (λ row. row.1)) (scan_with_keys state tree bounds.from bounds.to) in
    subst (λ answer. Answers answer c.check_scan.result) (sym same)
    (subst (λ first. Answers (map_ok (λ _. tt) (scan_with_keys state tree first bounds.to)) c.check_scan.result) from
    (subst (λ last. Answers (map_ok (λ _. tt) (scan_with_keys state tree (option_copied c.as_ref.result) last)) c.check_scan.result) to c.check_scan.ensures))

pub returns-in_err-sums_alone-in-Sums : goal.returns-in_err-sums_alone-in-Sums
returns-in_err-sums_alone-in-Sums c =
    let state = c.args.table.now in
    let form = c.in-Sums.form in
    let refusal = c.in_err-sums_alone-in-Sums.field-0.0 in
    let from : option_copied c.as_ref-from.result ≡ form.bounds.from = search rules in
    let to : option_copied c.as_ref-to.result ≡ form.bounds.to = search rules in
    let groups = sums state form.tree form.columns form.column form.bounds.from form.bounds.to in
    let told : Answers groups (Err refusal) =
    subst (λ first. Answers (sums state form.tree form.columns form.column first form.bounds.to) (Err refusal)) from
    (subst (λ last. Answers (sums state form.tree form.columns form.column (option_copied c.as_ref-from.result) last) (Err refusal)) to
    c.in_err-sums_alone-in-Sums.ensures.answer) in
    let same = ap (λ command. permitted (outcome (Some state) command)) c.in-Sums.is ∙ of_read state sums_reply groups in
    answers_on_err _ c.from_residual-in_err-sums_alone-in-Sums.result refusal c.from_residual-in_err-sums_alone-in-Sums.ensures.1
    (subst (λ answer. Answers answer (Err refusal)) (sym same) (mapped (λ _. tt) groups (Err refusal) told))

pub returns-in_ok-index_def-in-Index : goal.returns-in_ok-index_def-in-Index
returns-in_ok-index_def-in-Index c =
    ap (λ command. permitted (outcome (Some c.args.table.now) command)) c.in-Index.is
    ∙ created c.args.table.now c.in-Index.form c.in_ok-index_def-in-Index.field-0 c.in_ok-index_def-in-Index.ensures.answer
