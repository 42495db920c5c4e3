use Rattle.std.proofs.Common.{◌≤◌, ◌-◌}
use Rattle.bt_row.proofs.Walks.{Walk}
use Rattle.bt_row.proofs.rows.packed_values.offset.Given as goal

abbrev pub invariant-loop-passed : goal.invariant-loop-passed
invariant-loop-passed l = record { walk : Walk l.bytes l.passed l.at; up_to : l.passed ≤ l.place }

abbrev pub decreases-loop-passed : goal.decreases-loop-passed
decreases-loop-passed l = l.place - l.passed
