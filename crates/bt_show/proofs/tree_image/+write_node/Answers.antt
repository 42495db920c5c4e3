use Rattle.std.proofs.Common.{arith, ◌∙◌}
use Rattle.bt_form.specs.Walks.{children_of}
use Rattle.bt_show.specs.inside.Drawings.{own_text}
use Rattle.bt_show.proofs.Drawings.{child_below, child_written, node_written}
use Rattle.bt_show.proofs.tree_image.+write_node.Goals as goal

pub write_node-requires : goal.write_node-requires
write_node-requires g t c κs within = (omega (arith, child_below c.args.walk.now c.child-child.result c.loop-place.place c.child-child.ensures, c.decreases), within)

pub loop-place-preserved : goal.loop-place-preserved
loop-place-preserved g t c =
    child_written (g.D.Drawing.value_text c.args.drawing.now) (g.D.Drawing.delta_text c.args.drawing.now) (children_of c.args.walk.now) c.loop-place.place
    c.as_slice-below.result.now c.child-child.result c.args.out.now.items
    (own_text (g.D.Drawing.value_text c.args.drawing.now) (g.D.Drawing.delta_text c.args.drawing.now) c.args.indent.now c.as_slice-below.result.now
    c.args.walk.now)
    c.loop-place.out.items c.write_pivot.new.out.items c.write_node.new.out.items c.child-child.ensures c.in_ok-write_pivot.ensures c.in_ok-write_node.ensures c.loop-place.invariant

pub returns : goal.returns
returns g t c =
    let past = c.loop-place-test.false in
    let all = c.child_count-place-end.ensures in
    let below = c.as_slice-below.ensures.value ∙ c.in_ok-spaces.ensures in
    node_written (g.D.Drawing.value_text c.args.drawing.now) (g.D.Drawing.delta_text c.args.drawing.now) c.args.walk.now c.args.indent.now
    c.as_slice-below.result.now c.loop-place.place c.args.out.now.items c.loop-place.out.items below (omega (arith, past, all)) c.loop-place.invariant
