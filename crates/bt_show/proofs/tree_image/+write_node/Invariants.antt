use Rattle.std.proofs.Common.{◌≡◌, ◌++◌, take}
use Rattle.bt_form.specs.Trees as trees
use Rattle.bt_form.specs.Walks.{children_of}
use Rattle.bt_show.specs.inside.Drawings.{own_text, siblings_text}
use Rattle.bt_show.proofs.tree_image.+write_node.Given as goal

-- the node's own lines and those of the children so far were added
abbrev pub invariant-loop-place : goal.invariant-loop-place
invariant-loop-place g l =
    let value_text = g.D.Drawing.value_text l.drawing in
    let delta_text = g.D.Drawing.delta_text l.drawing in
    l.out.items ≡ l.fn.out.items ++ (own_text value_text delta_text l.indent l.below l.walk ++ siblings_text value_text delta_text l.below 0 (take l.place (children_of l.walk)))

abbrev pub decreases-write_node : goal.decreases-write_node
decreases-write_node g l = trees.height l.walk.now
