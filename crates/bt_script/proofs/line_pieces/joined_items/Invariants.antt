use Rattle.std.proofs.Common.{◌≡◌, Some}
use Rattle.std.specs.Vec.Iter.{into_iter_items}
use Rattle.bt_script.proofs.LinePieces.{both_lists, joined}
use Rattle.bt_script.proofs.line_pieces.joined_items.Given as goal

-- the messages so far, and then those of the pieces that are left
abbrev pub invariant-loop-items : goal.invariant-loop-items
invariant-loop-items l = both_lists (Some l.all.items) (joined (into_iter_items l.items-iterator)) ≡ joined l.fn.pieces.items
