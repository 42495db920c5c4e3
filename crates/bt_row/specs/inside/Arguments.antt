-- The remaining arguments of operations.
use Rattle.std.specs.Prelude.{List, ◌∷◌, map, Option, Some, None, ℤ}
use Rattle.bt_row.specs.Ops.{argument_of}
use Rattle.bt_row.specs.declared.operations.op.Op.{Op}
use Rattle.bt_value.specs.declared.value.Value.{Value}
use Rattle.bt_value.specs.declared.value.Value.TheVariants as value

-- the number of one operation, if there is one, and the arguments of operations
abbrev pub arguments_left : Option ℤ → List Op → List Value
arguments_left None ops = map argument_of ops
arguments_left (Some number) ops = value.Int number ∷ map argument_of ops
