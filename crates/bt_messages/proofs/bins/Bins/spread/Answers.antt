use Rattle.std.proofs.Common.{◌-◌, ◌∙◌, sym}
use Rattle.bt_messages.proofs.Totals.{held-either}
use Rattle.bt_messages.proofs.bins.Bins.spread.Goals as goal

pub invariant_of-self : goal.invariant_of-self
invariant_of-self g c =
    c.self.invariant
    ∙ sym (held-either c.insert_empty.result c.self.inside.bins.items c.insert_empty.new.buffers.items c.args.child (c.args.parts - 1) c.insert_empty.ensures.inserted c.insert_empty.ensures.err)
