use Rattle.std.proofs.Common.{arith}
use Rattle.bt_read.proofs.joint_lookup.found_at.Goals as goal

pub push_reserved-requires : goal.push_reserved-requires
push_reserved-requires g c = omega arith
