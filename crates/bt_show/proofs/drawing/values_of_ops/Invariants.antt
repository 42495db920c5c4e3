use Rattle.std.proofs.Common.{◌≡◌, take}
use Rattle.std.specs.Prelude.{flat_map}
use Rattle.bt_show.specs.Images.{values_of_op}
use Rattle.bt_show.proofs.drawing.values_of_ops.Given as goal

-- the values of the operations so far were added
abbrev pub invariant-loop-op : goal.invariant-loop-op
invariant-loop-op l = l.values.items ≡ flat_map (values_of_op l.columns) (take l.op-index l.ops)
