use Rattle.std.proofs.Common.{◌≡◌, drop}
use Rattle.bt_row.specs.Ops.{named_from}
use Rattle.bt_row.proofs.rows.schema.find_column.Given as goal

-- the result depends only on the columns from here on
abbrev pub invariant-loop-place : goal.invariant-loop-place
invariant-loop-place l = named_from l.start l.name (drop l.start l.columns) ≡ named_from l.place l.name (drop l.place l.columns)
