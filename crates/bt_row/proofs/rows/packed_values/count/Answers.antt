use Rattle.std.proofs.Common.{arith}
use Rattle.bt_row.proofs.Walks.{walked}
use Rattle.bt_row.proofs.rows.packed_values.count.Goals as goal

pub overflow_add-at : goal.overflow_add-at
overflow_add-at c = let w = walked _ _ _ _ c.requires c.loop-at.invariant c.loop-at-test.true c.width_at-at.ensures in omega (arith, w.within)

pub loop-at-preserved : goal.loop-at-preserved
loop-at-preserved c = walked _ _ _ _ c.requires c.loop-at.invariant c.loop-at-test.true c.width_at-at.ensures
