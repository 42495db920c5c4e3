use Rattle.std.proofs.Common.{◌≡◌, take}
use Rattle.bt_row.proofs.rows.row.Row.from_values.Given as goal

abbrev pub invariant-loop-value : goal.invariant-loop-value
invariant-loop-value l = l.row ≡ take l.value-index l.values
