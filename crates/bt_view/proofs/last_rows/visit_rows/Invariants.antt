use Rattle.std.proofs.Common.{◌≡◌, ◌-◌, fold, length, reverse, take}
use Rattle.bt_view.proofs.last_rows.visit_rows.Given as goal

-- what is still to be shown, and how many more may be shown after it
abbrev pub invariant-loop-left : goal.invariant-loop-left
invariant-loop-left g l = record {
  shown : fold g.S.Visitor.visited l.visitor (take l.left (reverse l.rows.items)) ≡ fold g.S.Visitor.visited l.fn.visitor (take l.fn.limit (reverse l.fn.rows.items));
  room : l.left - length l.rows.items ≡ l.fn.limit - length l.fn.rows.items;
}

abbrev pub decreases-loop-left : goal.decreases-loop-left
decreases-loop-left g l = l.left
