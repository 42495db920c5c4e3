use Rattle.std.proofs.Common.{◌≡◌, ◌++◌, drop}
use Rattle.bt_fanout.specs.Entries.{entry_of}
use Rattle.bt_fanout.specs.inside.RowEntries.{entries_of}
use Rattle.bt_fanout.proofs.building.entries_in_order.Given as goal

abbrev pub invariant-loop-row : goal.invariant-loop-row
invariant-loop-row l = entries_of (entry_of l.def) l.rows ≡ l.entries.items ++ entries_of (entry_of l.def) (drop l.row-index l.rows)
