use Rattle.std.proofs.Common.{◌≡◌, length}
use Rattle.bt_value.specs.Values.{same_values}
use Rattle.bt_row.proofs.rows.values.same_values.Given as goal

-- the result depends only on the remaining values
abbrev pub invariant-loop-a : goal.invariant-loop-a
invariant-loop-a l = same_values l.fn.left l.fn.right ≡ same_values l.lefts l.rights

abbrev pub decreases-loop-a : goal.decreases-loop-a
decreases-loop-a l = length l.lefts
