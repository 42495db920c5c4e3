use Rattle.std.proofs.Common.{ap, arith, length}
use Rattle.bt_packed.proofs.rows.add_values.Goals as goal

pub loop-value-smaller : goal.loop-value-smaller
loop-value-smaller c = omega (arith, ap length c.in-Some.ensures.some)
