use Rattle.std.proofs.Common.{◌≡◌, ◌+◌, ℕ, ◌<◌, [], length, slice_index_or, Ok, None}
use Rattle.bt_fanout.specs.inside.RowEntries.{IsEntryOrFailed}
use Rattle.bt_fanout.proofs.building.write_entries.Given as goal

-- the entries so far
abbrev pub invariant-loop-offset : goal.invariant-loop-offset
invariant-loop-offset l = record {
  long : length l.piece ≡ length l.fn.piece;
  made : (k : ℕ) → k < l.offset → IsEntryOrFailed l.def (slice_index_or l.rows (l.start + k) ([], [])) (slice_index_or l.piece k (Ok None));
}
