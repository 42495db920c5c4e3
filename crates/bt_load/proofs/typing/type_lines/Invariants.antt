use Rattle.std.proofs.Common.{◌≡◌, ◌+◌, ℕ, ◌<◌, [], length, slice_index_or}
use Rattle.bt_load.specs.Steps.{IsRowOrNone}
use Rattle.bt_load.proofs.typing.type_lines.Given as goal

-- the rows so far
abbrev pub invariant-loop-offset : goal.invariant-loop-offset
invariant-loop-offset l = record {
  long : length l.piece ≡ length l.fn.piece;
  typed : (k : ℕ) → k < l.offset → IsRowOrNone l.schema.columns (slice_index_or l.records (l.start + k) []) (slice_index_or l.piece k []);
}
