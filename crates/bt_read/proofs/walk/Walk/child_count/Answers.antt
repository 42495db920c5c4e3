use Rattle.std.proofs.Common.{ap, arith, length}
use Rattle.bt_form.proofs.offered.code.SiblingParts.{children_seen}
use Rattle.bt_read.proofs.walk.Walk.child_count.Goals as goal

pub returns-in-Inner : goal.returns-in-Inner
returns-in-Inner g c =
    let seen = children_seen c.args.self.now c.self.inside.node.now c.kind.result.now c.in-Inner.children c.in-Inner.bins c.self.view_is c.kind.ensures.tree c.in-Inner.is in
    omega (arith, c.len.ensures.count, ap length seen)
