use Rattle.std.proofs.Common.{refl}
use Rattle.bt_plan.proofs.cutting.keep.Goals as goal

pub same-node : goal.same-node
same-node g c = refl

pub same-bin : goal.same-bin
same-bin g c = refl
