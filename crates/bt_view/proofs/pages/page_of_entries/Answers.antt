use Rattle.std.proofs.Common.{rules, refl, take}
use Rattle.bt_form.specs.Flushes.{holds}
use Rattle.bt_form.specs.Messages.{between}
use Rattle.bt_fanout.specs.Effects.{entry_effect}
use Rattle.bt_show.specs.inside.Entries.{rows_of_entries}
use Rattle.bt_show.proofs.offered.SelectedRows.{gone-along}
use Rattle.bt_view.specs.inside.Orders.{in_order}
use Rattle.bt_view.proofs.pages.page_of_entries.Goals as goal

pub returns : goal.returns
returns g c =
    let entries = take c.args.limit (in_order c.args.order (between c.args.range.now.from c.args.range.now.to (holds entry_effect c.args.tree.now.1))) in
    gone-along g.S.Visitor.visited (rows_of_entries c.args.kinds.now entries) c.args.visitor c.args.kinds.now entries
    (c.args.kinds.now, c.args.visitor) (c.rows.inside.kinds.now, c.rows.inside.visitor) refl refl (search rules)
