use Rattle.std.proofs.Common.{◌≡◌, ◌++◌, drop}
use Rattle.bt_packed.specs.Calls.{columns_bytes}
use Rattle.bt_packed.proofs.columns.add_columns.Given as goal

-- the bytes so far come before those of the columns from here on
abbrev pub invariant-loop-column : goal.invariant-loop-column
invariant-loop-column l = l.fn.out.items ++ columns_bytes l.columns ≡ l.out.items ++ columns_bytes (drop l.column-index l.columns)
