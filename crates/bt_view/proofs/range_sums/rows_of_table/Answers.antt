use Rattle.std.proofs.Common.{rules, ◌≡◌, ◌≤◌, ◌∙◌, ℕ, Ok, None, fold, sym, ap}
use Rattle.bt_value.specs.Results.{map_ok, or_refused}
use Rattle.bt_value.specs.declared.refusal.Refusal.TheVariants.{TooMany}
use Rattle.bt_form.specs.Flushes.{holds}
use Rattle.bt_form.specs.Messages.{between}
use Rattle.bt_fanout.specs.Effects.{row_effect}
use Rattle.bt_view.specs.RangeSums.{place_in_range}
use Rattle.bt_show.specs.inside.Neighbours.{Groups, after_row}
use Rattle.bt_view.specs.inside.Shown.{with_whole}
use Rattle.bt_view.proofs.Summing.{range_placed}
use Rattle.bt_view.proofs.range_sums.rows_of_table.Goals as goal

pub returns-in-Ok-clause-answer : goal.returns-in-Ok-clause-answer
returns-in-Ok-clause-answer c = λ table shows.
    let schema = c.args.schema.now in
    let own = c.args.range in
    let place = c.in-Ok.place in
    let few : c.args.grouping ≤ schema.keys = search rules in
    let rows = between own.from own.to (holds row_effect c.args.tree.now.1) in
    let placed : place_in_range schema.columns schema.keys c.args.grouping c.args.column.now ≡ Ok place = search rules in
    range_placed table schema c.args.tree.now shows None None c.args.grouping c.args.column.now own place placed few
    ∙ ap (λ (g : ℕ × ℕ × Groups). map_ok (with_whole c.args.grouping) (or_refused TooMany (fold after_row g rows).2)) (sym c.new.ensures)
