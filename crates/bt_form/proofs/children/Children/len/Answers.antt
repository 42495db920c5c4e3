use Rattle.std.proofs.Common.{ap, arith, length}
use Rattle.bt_form.proofs.offered.code.ChildLists.{length-whole}
use Rattle.bt_form.proofs.children.Children.len.Goals as goal

pub returns : goal.returns
returns g c =
    let inside = c.self.inside in
    omega (
      arith,
      c.len.ensures,
      inside.nodes.ok.0,
      ap length c.self.view_is,
      length-whole inside.first inside.pivots.items inside.nodes.items inside.bins.items c.self.invariant.0 (omega (arith, c.self.invariant.1)),
    )
