use Rattle.std.proofs.Common.{◌+◌, ◌*◌, length}
use Rattle.bt_row.specs.inside.Packing.{packed_values}
use Rattle.bt_value.specs.Room.{HasRoom}
use Rattle.bt_row.proofs.RecordTexts.{Wrote}
use Rattle.bt_row.proofs.rows.record_writer.write_fields.Given as goal

-- the fields so far were added, and there is room for the others
abbrev pub invariant-loop-value : goal.invariant-loop-value
invariant-loop-value l = record {
  wrote : Wrote l.fn.values l.rest l.place l.fn.out.items l.out.items;
  room : HasRoom l.out (6 * length (packed_values l.rest) + 2);
}

abbrev pub decreases-loop-value : goal.decreases-loop-value
decreases-loop-value l = length l.rest
