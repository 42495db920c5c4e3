use Rattle.bt_row.proofs.LentValues.{has_text}
use Rattle.bt_row.proofs.operations.lent_row.LentRow.pack.Goals as goal

pub push-requires : goal.push-requires
push-requires c = has_text c.as_slice-values.result.now c.loop-value.value-index _ c.loop-value-test.true (rw c.as_slice-values.ensures.value c.self.invariant)
