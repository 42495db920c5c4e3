use Rattle.std.proofs.Common.{rules, ◌≡◌, ◌≤◌, ◌∙◌, ℕ, Ok, None, fold, sym, true, ap}
use Rattle.bt_value.specs.Results.{map_ok, or_refused}
use Rattle.bt_value.specs.declared.refusal.Refusal.TheVariants.{TooMany}
use Rattle.bt_fanout.specs.Covers.{is_whole}
use Rattle.bt_table.specs.Indexes.{index_of_ref}
use Rattle.bt_view.specs.RangeSums.{place_in_range}
use Rattle.bt_view.specs.Ranges.{index_schema}
use Rattle.bt_show.specs.inside.Neighbours.{Groups, after_row}
use Rattle.bt_view.specs.inside.Shown.{with_whole}
use Rattle.bt_view.proofs.IndexViews.{entries_by, range_placed}
use Rattle.bt_view.proofs.range_sums.rows_of_index.Goals as goal

pub returns-in_ok-entries_in-in-Ok-clause-answer : goal.returns-in_ok-entries_in-in-Ok-clause-answer
returns-in_ok-entries_in-in-Ok-clause-answer c = λ table shows.
    let index = index_of_ref c.args.index in
    let schema = c.args.schema.now in
    let own = c.args.range in
    let grouping = c.args.grouping in
    let place = c.in-Ok.place in
    let whole : is_whole index.cover ≡ true = search rules in
    let shape = index_schema schema index.def in
    let few : grouping ≤ shape.keys = search rules in
    let placed : place_in_range shape.columns shape.keys grouping c.args.column.now ≡ Ok place = search rules in
    range_placed table index None None schema shows grouping c.args.column.now place own whole placed few
    ∙ ap (λ (g : ℕ × ℕ × Groups). map_ok (with_whole grouping) (or_refused TooMany (fold after_row g (entries_by table index None None schema shows schema own)).2)) (sym c.new.ensures)
    ∙ ap (λ rows. map_ok (with_whole grouping) (or_refused TooMany (fold after_row c.new.result rows).2)) (sym c.in_ok-entries_in-in-Ok.ensures)
