use Rattle.std.proofs.Common.{rules, ◌∙◌, refl}
use Rattle.bt_form.specs.Flushes.{holds}
use Rattle.bt_form.specs.Messages.{between}
use Rattle.bt_fanout.specs.Effects.{entry_effect}
use Rattle.bt_show.specs.inside.Entries.{rows_of_entries}
use Rattle.bt_show.specs.inside.Neighbours.{after_row}
use Rattle.bt_show.proofs.offered.SelectedRows.{gone-along}
use Rattle.bt_view.proofs.range_sums.group_entries.Goals as goal

pub returns : goal.returns
returns c =
    let entries = between c.args.range.now.from c.args.range.now.to (holds entry_effect c.args.tree.now.1) in
    c.into_groups.ensures
    ∙ gone-along after_row (rows_of_entries c.args.kinds.now entries) c.args.groups c.args.kinds.now entries
    c.new-entries.result c.visit.new.visitor refl c.new-entries.ensures (search rules)
