use Rattle.std.proofs.Common.{◌≡◌, fold, take}
use Rattle.bt_read.proofs.leaf_visits.visit_rows.Given as goal

abbrev pub invariant-loop-key : goal.invariant-loop-key
invariant-loop-key g l = l.visitor ≡ fold g.S.Visitor.visited l.fn.visitor (take l.key-index l.rows)
