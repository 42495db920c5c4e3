use Rattle.std.proofs.Common.{ap, arith, length}
use Rattle.bt_snapshot.proofs.compacting.are_complete.Goals as goal

pub loop-index-smaller : goal.loop-index-smaller
loop-index-smaller c = omega (arith, ap length c.in-Some.ensures.some)
