use Rattle.std.proofs.Common.{◌≤◌, ◌+◌, length}
use Rattle.bt_rowtype.proofs.PlainRows.{ReadTo}
use Rattle.bt_rowtype.proofs.plain_row.read_plain_columns.Given as goal

-- the fields before this place encode the values so far
abbrev pub invariant-loop-column : goal.invariant-loop-column
invariant-loop-column l = record {
  within : l.at ≤ length l.text + 1;
  so_far : ReadTo l.columns l.text l.row l.column-index l.at;
}
