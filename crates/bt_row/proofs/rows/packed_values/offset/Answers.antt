use Rattle.std.proofs.Common.{arith}
use Rattle.bt_row.proofs.Walks.{walked, walk_done, walk_ended}
use Rattle.bt_row.proofs.rows.packed_values.offset.Goals as goal

pub overflow_add-at : goal.overflow_add-at
overflow_add-at c = let w = walked _ _ _ _ c.requires c.loop-passed.invariant.walk c.if-at-bytes.true c.width_at-at.ensures in omega (arith, w.within)

pub loop-passed-preserved : goal.loop-passed-preserved
loop-passed-preserved c = record {
  walk = walked _ _ _ _ c.requires c.loop-passed.invariant.walk c.if-at-bytes.true c.width_at-at.ensures;
  up_to = omega arith;
}

pub returns-else-at-bytes : goal.returns-else-at-bytes
returns-else-at-bytes c = walk_ended _ _ _ _ c.requires c.loop-passed.invariant.walk c.if-at-bytes.false c.loop-passed.invariant.up_to

pub returns-after-loop-passed : goal.returns-after-loop-passed
returns-after-loop-passed c = walk_done _ _ _ _ c.requires c.loop-passed.invariant.walk (omega arith)
