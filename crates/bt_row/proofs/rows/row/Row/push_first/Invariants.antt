use Rattle.std.proofs.Common.{◌≡◌, ◌++◌, length, take}
use Rattle.bt_row.proofs.rows.row.Row.push_first.Given as goal

abbrev pub invariant-loop-value : goal.invariant-loop-value
invariant-loop-value l = l.fn.self ++ take l.count l.row ≡ l.self ++ l.rest

abbrev pub decreases-loop-value : goal.decreases-loop-value
decreases-loop-value l = length l.rest
