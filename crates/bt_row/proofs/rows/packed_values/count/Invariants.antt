use Rattle.std.proofs.Common.{length, ◌-◌}
use Rattle.bt_row.proofs.Walks.{Walk}
use Rattle.bt_row.proofs.rows.packed_values.count.Given as goal

abbrev pub invariant-loop-at : goal.invariant-loop-at
invariant-loop-at l = Walk l.bytes l.passed l.at

abbrev pub decreases-loop-at : goal.decreases-loop-at
decreases-loop-at l = length l.bytes - l.at
