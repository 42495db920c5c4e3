use Rattle.std.proofs.Common.{◌≡◌, []}
use Rattle.bt_packed.specs.Changes.{ops_from}
use Rattle.bt_packed.proofs.operations.ops_from.Given as goal

-- what is read from here on, after the operations so far, is what is read in all
abbrev pub invariant-loop-left : goal.invariant-loop-left
invariant-loop-left l = ops_from l.schema l.item l.fn.count [] l.fn.bytes ≡ ops_from l.schema l.item l.left l.ops l.rest

abbrev pub decreases-loop-left : goal.decreases-loop-left
decreases-loop-left l = l.left
