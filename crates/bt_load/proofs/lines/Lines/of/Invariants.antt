use Rattle.std.proofs.Common.{◌≡◌, ◌++◌, ◌≤◌, ◌<◌, ◌+◌, ◌*◌, ℕ, [], drop, length, slice_index_or}
use Rattle.bt_load.proofs.lines.Lines.of.Given as goal

-- there is a mark at each 1,024th place before this one
abbrev pub invariant-loop-marks : goal.invariant-loop-marks
invariant-loop-marks l = record {
  all : l.lines.items ++ l.records ≡ l.fn.records;
  enough : length l.lines.items ≤ 1024 * length l.marks.items;
  few : 1024 * length l.marks.items < length l.lines.items + 1024;
  left : (k : ℕ) → k < length l.marks.items → slice_index_or l.marks.items k [] ≡ drop (1024 * k) l.fn.records;
}

abbrev pub decreases-loop-marks : goal.decreases-loop-marks
decreases-loop-marks l = length l.records
