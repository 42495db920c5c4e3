use Rattle.std.proofs.Common.{rules, ◌≡◌, ◌≤◌, [], Ok, Some, refl, take}
use Rattle.std.specs.Option.{option_copied}
use Rattle.bt_form.specs.Flushes.{holds}
use Rattle.bt_form.specs.Messages.{between}
use Rattle.bt_fanout.specs.Effects.{row_effect}
use Rattle.bt_table.specs.Calls.{Shows}
use Rattle.bt_table.specs.declared.table.TreeRef.TheVariants as shown
use Rattle.bt_view.specs.Groups.{summed_place, sums}
use Rattle.bt_view.specs.Ranges.{range_as}
use Rattle.bt_view.proofs.Summing.{of_shown, sums_of_rows}
use Rattle.bt_view.proofs.shown.rows_to_sum.Goals as goal

pub returns-in-Ok-clause-answer : goal.returns-in-Ok-clause-answer
returns-in-Ok-clause-answer c =
    let state = c.args.table.now in
    let name = c.args.name.now in
    let from = option_copied c.args.from in
    let to = option_copied c.args.to in
    let grouping = c.args.grouping in
    let column = c.args.column.now in
    let schema = c.in-Rows.schema.now in
    let own = c.in_ok-range-in-Rows.range in
    let place = c.in-Ok.place in
    let shows : Shows state name (shown.Rows c.in-Rows.schema c.in-Rows.tree) = search rules in
    let is : range_as (take schema.keys schema.columns) from to ≡ Ok own = search rules in
    let placed : summed_place schema.columns schema.keys grouping column ≡ Ok place = search rules in
    let few : grouping ≤ schema.keys = search rules in
    let rows = between own.from own.to (holds row_effect c.in-Rows.tree.now.1) in
    of_shown (sums state name grouping column from to) (grouping, place, Some []) c.new.result rows rows
    (sums_of_rows shows.0 schema c.in-Rows.tree.now shows.2 from to grouping column state name own place shows.1 is placed few) c.new.ensures refl
