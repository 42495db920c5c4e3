use Rattle.std.proofs.Common.{◌<◌, length, refl}
use Rattle.bt_messages.proofs.Totals.{held-emptied}
use Rattle.bt_messages.proofs.bins.Bins.take.Goals as goal

pub overflow_sub-self : goal.overflow_sub-self
overflow_sub-self g c =
    let below : c.args.child < length c.self.inside.bins.items = rw c.self.view_is c.requires in
    (held-emptied c.self.inside.bins.items c.args.child c.index.result.now _ c.self.inside.count c.count.result below c.index.ensures c.count.ensures.count refl c.self.invariant).0

pub invariant_of-self : goal.invariant_of-self
invariant_of-self g c =
    let below : c.args.child < length c.self.inside.bins.items = rw c.self.view_is c.requires in
    (held-emptied c.self.inside.bins.items c.args.child c.index.result.now c.take.new.self c.self.inside.count c.count.result below c.index.ensures
    c.count.ensures.count c.take.ensures.left c.self.invariant).1
