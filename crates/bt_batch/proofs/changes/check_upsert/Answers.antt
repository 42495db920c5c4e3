use Rattle.std.proofs.Common.{List, OnOk, subst}
use Rattle.bt_row.specs.Fits.{OpsInRange}
use Rattle.bt_row.specs.declared.operations.op.Op.{Op}
use Rattle.bt_batch.proofs.CheckedChanges.{both_on_ok}
use Rattle.bt_batch.proofs.changes.check_upsert.Goals as goal

pub returns-clause-in_range : goal.returns-clause-in_range
returns-clause-in_range c =
    both_on_ok c.check_key-key.result c.check_ops-ops.result c.both_checked.result _ _ c.both_checked.ensures c.check_key-key.ensures.in_range
    (subst (λ (ops : List Op). OnOk c.check_ops-ops.result (OpsInRange ops)) c.as_slice.ensures c.check_ops-ops.ensures.in_range)
