use Rattle.std.proofs.Common.{◌≡◌}
use Rattle.bt_packed.specs.Pieces.{some_from}
use Rattle.bt_packed.proofs.pieces.add_some.Given as goal

-- what is read from here on, after the changes so far, is what is read in all
abbrev pub invariant-loop-left : goal.invariant-loop-left
invariant-loop-left l = record {
  same : some_from l.fn.count (l.fn.changes, l.fn.bytes) ≡ some_from l.left (l.changes, l.rest);
  same_schema : l.changes.schema ≡ l.fn.changes.schema;
}

abbrev pub decreases-loop-left : goal.decreases-loop-left
decreases-loop-left l = l.left
