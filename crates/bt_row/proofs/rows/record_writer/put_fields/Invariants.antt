use Rattle.std.proofs.Common.{◌≡◌, ◌+◌, ◌*◌, ◌≤◌, [], length, take}
use Rattle.bt_row.specs.inside.Packing.{packed_values}
use Rattle.bt_row.proofs.RecordTexts.{Wrote}
use Rattle.bt_row.proofs.rows.record_writer.put_fields.Given as goal

-- the fields so far were put, and the others fit in the array
abbrev pub invariant-loop-value : goal.invariant-loop-value
invariant-loop-value l = record {
  wrote : Wrote l.fn.values l.rest l.place [] (take l.end l.room);
  room : l.end + (6 * length (packed_values l.rest) + 2) ≤ 256;
  size : length l.room ≡ 256;
}

abbrev pub decreases-loop-value : goal.decreases-loop-value
decreases-loop-value l = length l.rest
