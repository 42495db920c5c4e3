use Rattle.std.proofs.Common.{◌∙◌, ap}
use Rattle.std.specs.Option.{option_copied}
use Rattle.bt_form.specs.Messages.{between}
use Rattle.bt_form.proofs.offered.rows.Between.{part-sorted, rows-in_order}
use Rattle.bt_form.proofs.rows.Rows.between.Goals as goal

pub between-requires : goal.between-requires
between-requires g c = rows-in_order c.self.inside.rows.items c.as_slice.result.now c.as_slice.ensures.value c.self.invariant

pub returns-clause-sorted : goal.returns-clause-sorted
returns-clause-sorted g c =
    let from = option_copied c.args.from in
    let to = option_copied c.args.to in
    part-sorted from to c.self.inside.rows.items c.between.result.now c.self.invariant (c.between.ensures.between ∙ ap (between from to) c.as_slice.ensures.value)
