use Rattle.std.proofs.Common.{◌≡◌, take}
use Rattle.csv.specs.Records as rec
use Rattle.bt_record.proofs.csv_reader.copy_fields.Given as goal

abbrev pub invariant-loop-place : goal.invariant-loop-place
invariant-loop-place l = l.fields ≡ take l.place (rec.fields_of l.record)
