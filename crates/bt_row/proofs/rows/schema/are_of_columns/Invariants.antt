use Rattle.std.proofs.Common.{◌≡◌, drop}
use Rattle.bt_row.specs.Schemas.{fit_columns}
use Rattle.bt_row.proofs.rows.schema.are_of_columns.Given as goal

-- the result depends only on the values from here on
abbrev pub invariant-loop-column : goal.invariant-loop-column
invariant-loop-column l = fit_columns l.columns l.fn.values ≡ fit_columns (drop l.column-index l.columns) l.rest
