use Rattle.std.proofs.Common.{rules, ◌∙◌, Ok, ap, sym}
use Rattle.std.specs.Option.{option_copied}
use Rattle.bt_table.specs.Indexes.{index_of_ref}
use Rattle.bt_view.proofs.IndexViews.{scan_done, scan_refused}
use Rattle.bt_view.proofs.shown.scan_index.Goals as goal

pub returns-in_err-range-clause-answer : goal.returns-in_err-range-clause-answer
returns-in_err-range-clause-answer c = λ table shows.
    let refused = scan_refused table (index_of_ref c.args.index) (option_copied c.args.from) (option_copied c.args.to) c.args.schema.now shows c.in_err-range.field-0.0 (search rules) in
    search (rules, refused)

pub returns-clause-answer : goal.returns-clause-answer
returns-clause-answer c = λ table shows.
    scan_done table (index_of_ref c.args.index) (option_copied c.args.from) (option_copied c.args.to) c.args.schema.now shows c.in_ok-range.range
    (search rules) ∙ ap Ok (sym c.in_ok-entries_in.ensures)
