use Rattle.std.proofs.Common.{◌≡◌, ◌++◌, drop}
use Rattle.std.specs.Prelude.{map}
use Rattle.bt_row.specs.Ops.{default_row}
use Rattle.bt_value.specs.Values.{default_of}
use Rattle.bt_row.proofs.operations.apply.default_row.Given as goal

-- the values so far come before the defaults of the columns from here on
abbrev pub invariant-loop-column : goal.invariant-loop-column
invariant-loop-column l = default_row l.schema l.fn.key ≡ l.row ++ map (λ c. default_of c.kind) (drop l.column-index l.columns)
