use Rattle.std.proofs.Common.{◌≡◌, ◌++◌, length}
use Rattle.std.specs.Vec.Iter.{into_iter_items}
use Rattle.bt_form.specs.Flushes.{none_pending}
use Rattle.bt_gather.specs.Views.{pieces_of}
use Rattle.bt_gather.specs.inside.NewLeaves.{led_pieces}
use Rattle.bt_gather.proofs.new_leaves.leaves_of_parts.Given as goal

-- the leaves so far, and then those of the pieces that are left
abbrev pub invariant-loop-piece : goal.invariant-loop-piece
invariant-loop-piece g l = record {
  made : l.leaves ++ none_pending (led_pieces (into_iter_items l.starts) (pieces_of l.piece-iterator.rest.items)) ≡ none_pending (led_pieces l.fn.starts.items (pieces_of l.fn.pieces.items));
  aligned : length (into_iter_items l.starts) ≡ length l.piece-iterator.rest.items;
}
