use Rattle.std.proofs.Common.{ap, arith, length}
use Rattle.bt_form.proofs.offered.code.SiblingParts.{with_pivots-length}
use Rattle.bt_form.proofs.children.Children.with_pending.Goals as goal

pub invariant_of-result : goal.invariant_of-result
invariant_of-result g c =
    let apart = c.apart-nodes.ensures in (
      omega (arith, ap length c.into_buffers.ensures, c.requires, ap length apart.parts, with_pivots-length c.apart-nodes.result.1.items c.apart-nodes.result.0.items apart.one_fewer),
      omega (arith, apart.one_fewer),
    )
