use Rattle.std.proofs.Common.{◌≡◌, ◌+◌, ◌-◌, ◌^◌, length, min, take}
use Rattle.bt_form.specs.Trees as trees
use Rattle.bt_form.specs.Walks.{children_of, messages_of, rows_of}
use Rattle.bt_show.specs.Usage.{leaf_rows, pending}
use Rattle.bt_show.specs.inside.Drawings.{highest}
use Rattle.bt_show.proofs.Totals.{total}
use Rattle.bt_show.proofs.tree_usage.+usage_of.Given as goal

-- what the node and its children so far hold, and the highest of these children
abbrev pub invariant-loop-place : goal.invariant-loop-place
invariant-loop-place g l =
    (l.rows ≡ min (length (rows_of l.walk) + total leaf_rows (take l.place (children_of l.walk))) (2 ^ 64 - 1))
    × (l.messages ≡ min (length (messages_of l.walk) + total pending (take l.place (children_of l.walk))) (2 ^ 64 - 1))
    × (l.highest ≡ min (highest (take l.place (children_of l.walk))) (2 ^ 64 - 1))

abbrev pub decreases-usage_of : goal.decreases-usage_of
decreases-usage_of g l = trees.height l.walk.now
