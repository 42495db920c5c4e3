use Rattle.std.proofs.Common.{rules, ◌≡◌, ◌≢◌, ◌∙◌, Err, Ok, Some, ap, codes, fold, sym}
use Rattle.bt_value.specs.declared.refusal.Refusal.TheVariants.{OutOfMemory}
use Rattle.bt_script.specs.declared.command.Command.TheVariants.{Scan}
use Rattle.bt_value.specs.Results.{map_ok}
use Rattle.bt_view.specs.Ranges.{scan, scan_with_keys}
use Rattle.bt_view.proofs.offered.Scans.{without_keys}
use Rattle.bt_shell.specs.inside.Lines.{with_line}
use Rattle.bt_shell.specs.Replies.{row_line, scan_reply}
use Rattle.bt_shell.specs.Steps.{outcome, read_outcome}
use Rattle.bt_shell.proofs.Replied.{refused, replied}
use Rattle.bt_shell.proofs.turn.scan.Goals as goal

pub returns : goal.returns
returns g c =
    let state = c.args.table.now in
    let name = c.args.name.now in
    let bounds = c.args.bounds.now in
    let none = c.in_room.result in
    let lines = c.in_ok-lines.lines in
    let text = c.in_ok-into_reply.field-0 in
    let shown : map_ok (fold (with_line (λ row. row_line row.1)) none) (scan_with_keys state name bounds.from bounds.to) ≡ Ok lines = search rules in
    let wanted : map_ok scan_reply (scan state name bounds.from bounds.to) ≡ Ok text =
    replied row_line (codes "rows ") (scan state name bounds.from bounds.to) none lines text c.in_room.ensures
    (sym (without_keys (with_line row_line) none state name bounds.from bounds.to) ∙ shown) c.in_ok-into_reply.ensures in
    search (rules, ap (read_outcome state) wanted)

pub returns-in_err-lines : goal.returns-in_err-lines
returns-in_err-lines g c =
    let state = c.args.table.now in
    let name = c.args.name.now in
    let bounds = c.args.bounds.now in
    let none = c.in_room.result in
    let answer = scan state name bounds.from bounds.to in
    let refusal = c.in_err-lines.field-0.0 in
    let told : refusal ≢ OutOfMemory → map_ok (fold (with_line (λ row. row_line row.1)) none) (scan_with_keys state name bounds.from bounds.to) ≡ Err refusal = search rules in
    let wanted : refusal ≢ OutOfMemory → outcome (Some state) (Scan name bounds) ≡ Err refusal =
    λ certain. ap (read_outcome state) (refused (fold (with_line row_line) none) scan_reply answer refusal
    (sym (without_keys (with_line row_line) none state name bounds.from bounds.to) ∙ told certain)) in
    search (rules, wanted)
