use Rattle.std.proofs.Common.{◌≡◌, ◌∙◌, ap, arith}
use Rattle.bt_messages.proofs.Totals.{held, held-cut}
use Rattle.bt_messages.proofs.bins.Bins.divide.Goals as goal

pub overflow_sub-self : goal.overflow_sub-self
overflow_sub-self g c =
    let bins = c.self.inside.bins.items in
    let taken : c.total.result ≡ held c.in_ok-bins.bins.items = c.total.ensures.total ∙ ap held c.from_buffers-taken.ensures in
    omega (arith, taken, ap held c.in_ok-bins.ensures.tail, held-cut bins c.args.at, c.self.invariant)

pub invariant_of-self-2 : goal.invariant_of-self-2
invariant_of-self-2 g c =
    let bins = c.self.inside.bins.items in
    let taken : c.total.result ≡ held c.in_ok-bins.bins.items = c.total.ensures.total ∙ ap held c.from_buffers-taken.ensures in
    omega (arith, taken, ap held c.in_ok-bins.ensures.tail, ap held c.in_ok-bins.ensures.items, held-cut bins c.args.at, c.self.invariant)
