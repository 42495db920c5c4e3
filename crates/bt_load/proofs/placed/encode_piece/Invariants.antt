use Rattle.std.proofs.Common.{◌≡◌, ◌+◌, ℕ, ◌<◌, [], length, slice_index_or}
use Rattle.bt_load.specs.Steps.{IsKeyOrNone, no_key}
use Rattle.bt_load.proofs.placed.encode_piece.Given as goal

-- the keys so far
abbrev pub invariant-loop-offset : goal.invariant-loop-offset
invariant-loop-offset l = record {
  long : length l.piece ≡ length l.fn.piece;
  encoded : (k : ℕ) → k < l.offset → IsKeyOrNone l.keys (slice_index_or l.rows (l.start + k) []) (l.start + k) (slice_index_or l.piece k no_key);
}
