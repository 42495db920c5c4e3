use Rattle.bt_form.specs.Trees.{height}
use Rattle.bt_read.proofs.lookup.+tree_value.Given as goal

abbrev pub decreases-tree_value : goal.decreases-tree_value
decreases-tree_value g l = height l.node.now
