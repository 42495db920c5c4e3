use Rattle.std.proofs.Common.{rules, ◌∙◌, ap}
use Rattle.bt_form.specs.Flushes.{holds}
use Rattle.bt_form.specs.Messages.{between}
use Rattle.bt_fanout.specs.Effects.{entry_effect}
use Rattle.bt_show.specs.inside.Neighbours.{after_row}
use Rattle.bt_view.proofs.ShownRows.{gone-through}
use Rattle.bt_view.proofs.shown.sum.Goals as goal

pub returns-in_ok-entries-in-Entries : goal.returns-in_ok-entries-in-Entries
returns-in_ok-entries-in-Entries g c =
    c.into_groups.ensures
    ∙ gone-through after_row c.args.summed.shown c.args.summed.groups c.in-Entries.kinds.items (between c.in-Entries.range.from c.in-Entries.range.to (holds entry_effect c.in-Entries.tree.now.1))
    c.new-entries.result c.in_ok-entries-in-Entries.entries (search rules) (c.new-entries.ensures ∙ ap (λ kinds. (kinds, c.args.summed.groups)) c.as_slice.ensures.value) (search rules)
