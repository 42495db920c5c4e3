use Rattle.std.proofs.Common.{rules, ◌∙◌, [], None, Some, ap, fold, sym}
use Rattle.std.specs.Option.{option_copied}
use Rattle.bt_table.specs.Calls.{Secondary}
use Rattle.bt_table.specs.Indexes.{index_of_ref}
use Rattle.bt_view.specs.Groups.{sums_of}
use Rattle.bt_show.specs.inside.Neighbours.{after_row}
use Rattle.bt_view.specs.inside.Shown.{rows_shown}
use Rattle.bt_view.proofs.IndexViews.{entries_by, no_place, sums_done, sums_refused}
use Rattle.bt_view.proofs.Summing.{of_shown, only_too_many}
use Rattle.bt_view.proofs.shown.sum_index.Goals as goal

pub returns-in_err-range-clause-answer : goal.returns-in_err-range-clause-answer
returns-in_err-range-clause-answer c = λ table shows.
    let refused = sums_refused table (index_of_ref c.args.index) (option_copied c.args.from) (option_copied c.args.to) c.args.schema.now shows c.args.grouping
    c.args.column.now c.in_err-range.field-0.0 (search rules) in
    search (rules, refused)

pub returns-in-Err-clause-answer : goal.returns-in-Err-clause-answer
returns-in-Err-clause-answer c = λ table shows.
    let wanted = no_place table (index_of_ref c.args.index) (option_copied c.args.from) (option_copied c.args.to) c.args.schema.now shows c.args.grouping
    c.args.column.now c.in-Err.refusal c.in_ok-range.range (search rules) (search rules) in
    search (rules, wanted)

pub returns-clause-answer : goal.returns-clause-answer
returns-clause-answer c = λ table shows.
    let summed = sums_done table (index_of_ref c.args.index) (option_copied c.args.from) (option_copied c.args.to) c.args.schema.now shows c.args.grouping
    c.args.column.now c.in-Ok.place c.in_ok-range.range (search rules) (search rules) (search rules) in
    of_shown _ (c.args.grouping, c.in-Ok.place, Some []) c.new.result _ (rows_shown c.in_ok-entries_in.field-0) summed c.new.ensures c.in_ok-entries_in.ensures

pub returns-clause-unbounded : goal.returns-clause-unbounded
returns-clause-unbounded c = λ table shows from_none to_none.
    let summed = sums_done table (index_of_ref c.args.index) (option_copied c.args.from) (option_copied c.args.to) c.args.schema.now shows c.args.grouping
    c.args.column.now c.in-Ok.place c.in_ok-range.range (search rules) (search rules) (search rules) in
    let entries = entries_by table (index_of_ref c.args.index) (option_copied c.args.from) (option_copied c.args.to) c.args.schema.now shows c.args.schema.now c.in_ok-range.range in
    let tree = Secondary table (index_of_ref c.args.index) in
    only_too_many _ (sums_of c.args.grouping c.args.column.now None None tree) (fold after_row (c.args.grouping, c.in-Ok.place, Some []) entries).2
    (ap (λ from. sums_of c.args.grouping c.args.column.now from None tree) (sym (ap option_copied from_none))
    ∙ ap (λ to. sums_of c.args.grouping c.args.column.now (option_copied c.args.from) to tree) (sym (ap option_copied to_none)) ∙ summed)
