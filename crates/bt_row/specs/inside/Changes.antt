-- The operations that a change stores.
use Rattle.std.specs.Prelude.{List, [], ◌∷◌}
use Rattle.bt_row.specs.Arithmetic.{op_making}
use Rattle.bt_row.specs.declared.operations.change.ChangeOps.{ChangeOps}
use Rattle.bt_row.specs.declared.operations.change.ChangeOps.TheVariants as kept
use Rattle.bt_row.specs.declared.operations.op.Op.{Op}

-- a single arithmetic operation, or a list of operations
abbrev pub ops_in : ChangeOps → List Op
ops_in (kept.One arithmetic place number) = op_making arithmetic place number ∷ []
ops_in (kept.List ops) = ops.value
