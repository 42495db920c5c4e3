use Rattle.std.proofs.Common.{◌≡◌, ◌++◌, []}
use Rattle.std.specs.Vec.Iter.{into_iter_items}
use Rattle.bt_form.specs.Flushes.{pivot_first}
use Rattle.bt_flush.proofs.leaf_sources.side_by_side.Given as goal

-- the nodes so far, and the leaves that are left
abbrev pub invariant-loop-pivot : goal.invariant-loop-pivot
invariant-loop-pivot g l = l.siblings ++ into_iter_items l.pivot-iterator ≡ pivot_first [] l.fn.leaves.items
