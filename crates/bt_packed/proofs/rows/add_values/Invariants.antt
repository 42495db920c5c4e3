use Rattle.std.proofs.Common.{◌≡◌, ◌++◌, length}
use Rattle.bt_packed.specs.Layout.{row_bytes}
use Rattle.bt_packed.proofs.rows.add_values.Given as goal

-- the bytes so far come before those of the values from here on
abbrev pub invariant-loop-value : goal.invariant-loop-value
invariant-loop-value l = l.fn.out.items ++ row_bytes l.fn.values ≡ l.out.items ++ row_bytes l.rest

abbrev pub decreases-loop-value : goal.decreases-loop-value
decreases-loop-value l = length l.rest
