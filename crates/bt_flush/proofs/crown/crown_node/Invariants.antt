use Rattle.std.proofs.Common.{◌≡◌, length}
use Rattle.bt_form.specs.Flushes.{crown}
use Rattle.bt_flush.proofs.crown.crown_node.Given as goal

-- the same crown, from fewer nodes each time
abbrev pub invariant-levels : goal.invariant-levels
invariant-levels g l = crown l.shape l.level ≡ crown l.shape l.fn.siblings

abbrev pub decreases-levels : goal.decreases-levels
decreases-levels g l = length l.level
