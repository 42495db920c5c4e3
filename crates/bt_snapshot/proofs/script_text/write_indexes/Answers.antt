use Rattle.std.proofs.Common.{ap, arith, length}
use Rattle.bt_snapshot.proofs.script_text.write_indexes.Goals as goal

pub loop-index-smaller : goal.loop-index-smaller
loop-index-smaller c = omega (arith, ap length c.in-Some.ensures.some)
