use Rattle.std.proofs.Common.{◌≡◌, drop, length, take}
use Rattle.bt_row.specs.Schemas.{values_of}
use Rattle.bt_rowtype.proofs.Columnwise.{following}
use Rattle.bt_rowtype.proofs.row_reader.read_fields.Given as goal

-- the values so far come before those of the fields from here on
abbrev pub invariant-loop-place : goal.invariant-loop-place
invariant-loop-place l = values_of l.columns (take (length l.columns) l.fields) ≡ following l.row (values_of (drop l.place l.columns) (drop l.place (take (length l.columns) l.fields)))
