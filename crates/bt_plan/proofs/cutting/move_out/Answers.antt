use Rattle.std.proofs.Common.{refl}
use Rattle.bt_plan.proofs.cutting.move_out.Goals as goal

pub same-node : goal.same-node
same-node g c = refl

pub same-hole : goal.same-hole
same-hole g c = refl
