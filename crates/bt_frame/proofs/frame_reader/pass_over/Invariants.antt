use Rattle.std.proofs.Common.{List, ℕ, length, ◌+◌, ◌≡◌, ◌<◌}
use Rattle.bt_script.specs.Streams.{Gave, has_failed}
use Rattle.bt_frame.proofs.frame_reader.pass_over.Given as goal

abbrev pub invariant-pieces : goal.invariant-pieces
invariant-pieces g l = record {
  so_far : (bytes : List ℕ) × Gave g.R.Read.remaining l.fn.reader l.reader bytes × (length bytes + l.left ≡ l.count);
  healthy : has_failed l.reader ≡ has_failed l.fn.reader;
  piece : 0 < length l.piece;
}

abbrev pub decreases-pieces : goal.decreases-pieces
decreases-pieces g l = l.left
