use Rattle.std.proofs.Common.{◌≡◌, drop}
use Rattle.bt_row.specs.Ops.{after_ops}
use Rattle.bt_row.proofs.operations.apply.after_each.Given as goal

-- the row after the operations from here on is the row after all operations
abbrev pub invariant-loop-op : goal.invariant-loop-op
invariant-loop-op l = after_ops l.ops l.fn.row ≡ after_ops (drop l.op-index l.ops) l.after
