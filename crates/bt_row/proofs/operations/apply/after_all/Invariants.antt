use Rattle.std.proofs.Common.{◌≡◌, drop}
use Rattle.bt_row.specs.Ops.{after_ops}
use Rattle.bt_row.proofs.operations.apply.after_all.Given as goal

-- the values after the operations from here on are the row after all operations
abbrev pub invariant-loop-op : goal.invariant-loop-op
invariant-loop-op l = after_ops (drop l.op-index l.ops) l.values ≡ after_ops l.ops l.row
