use Rattle.std.proofs.Common.{rules, ap}
use Rattle.bt_form.specs.Flushes.{holds}
use Rattle.bt_form.specs.Messages.{between}
use Rattle.bt_fanout.specs.Effects.{entry_effect}
use Rattle.bt_view.proofs.ShownRows.{gone-through}
use Rattle.bt_view.proofs.shown.show.Goals as goal

pub returns-in_ok-visitor-in-Entries : goal.returns-in_ok-visitor-in-Entries
returns-in_ok-visitor-in-Entries g c =
    gone-through g.S.Visitor.visited c.args.shown c.args.visitor c.in-Entries.kinds.items (between c.in-Entries.range.from c.in-Entries.range.to (holds entry_effect c.in-Entries.tree.now.1))
    (c.as_slice.result.now, c.args.visitor) (c.visitor.inside.kinds.now, c.visitor.inside.visitor) (search rules) (ap (λ kinds. (kinds, c.args.visitor)) c.as_slice.ensures.value) (search rules)
