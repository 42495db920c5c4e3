use Rattle.std.proofs.Common.{◌≡◌, ◌+◌, ℕ, ◌<◌, [], drop, length, slice_index_or, true}
use Rattle.bt_load.specs.Steps.{IsRowOrNone}
use Rattle.bt_load.proofs.typing.type_by_csv.Given as goal

-- the rows so far; until an allocation fails, the reader has the records from here on left
abbrev pub invariant-loop-offset : goal.invariant-loop-offset
invariant-loop-offset l = record {
  long : length l.piece ≡ length l.fn.piece;
  typed : (k : ℕ) → k < l.offset → IsRowOrNone l.schema.columns (slice_index_or l.records (l.start + k) []) (slice_index_or l.piece k []);
  here : l.reads ≡ true → l.reader ≡ drop (l.start + l.offset) l.records;
}
