use Rattle.bt_messages.proofs.Totals.{held-only_empty}
use Rattle.bt_messages.proofs.bins.Bins.new.Goals as goal

pub invariant_of-result : goal.invariant_of-result
invariant_of-result g c = held-only_empty c.in_ok-bins.bins.items c.push_empty.new.buffers.items c.args.children c.push_empty.ensures.pushed c.in_ok-bins.ensures.items
