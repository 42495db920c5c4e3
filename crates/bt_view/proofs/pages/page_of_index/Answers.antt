use Rattle.std.proofs.Common.{rules, ◌≡◌, ◌∙◌, List, Ok, ap, fold, sym, take, true}
use Rattle.bt_value.specs.Results.{map_ok}
use Rattle.bt_value.specs.declared.value.Kind.{Kind}
use Rattle.bt_form.specs.Flushes.{holds}
use Rattle.bt_form.specs.Messages.{between}
use Rattle.bt_fanout.specs.Covers.{is_whole}
use Rattle.bt_fanout.specs.Effects.{entry_effect}
use Rattle.bt_table.specs.Indexes.{index_of_ref}
use Rattle.bt_show.specs.inside.Entries.{rows_of_entries}
use Rattle.bt_view.specs.inside.Orders.{in_order}
use Rattle.bt_view.proofs.IndexViews.{page_done}
use Rattle.bt_view.proofs.pages.page_of_index.Goals as goal

pub returns-in_ok-page_of_entries-in-Whole-clause-answer : goal.returns-in_ok-page_of_entries-in-Whole-clause-answer
returns-in_ok-page_of_entries-in-Whole-clause-answer g c = λ table shows.
    let whole : is_whole c.args.index.head.now.cover ≡ true = search rules in
    let entries = take c.args.limit (in_order c.args.order (between c.args.range.now.from c.args.range.now.to (holds entry_effect c.args.index.tree.now.1))) in
    let shown = λ (kinds : List Kind). fold g.S.Visitor.visited c.args.visitor (rows_of_entries kinds entries) in
    ap (map_ok (fold g.S.Visitor.visited c.args.visitor))
    (page_done table (index_of_ref c.args.index) c.args.range.now c.args.order c.args.limit c.args.schema.now shows whole)
    ∙ ap Ok (sym (c.in_ok-page_of_entries-in-Whole.ensures ∙ ap shown (c.as_slice-kinds.ensures.value ∙ c.in_ok-kinds-in-Whole.ensures)))
