use Rattle.std.proofs.Common.{◌≡◌, length}
use Rattle.bt_row.specs.Schemas.{are_apart}
use Rattle.bt_row.proofs.rows.schema.names_differ.Given as goal

abbrev pub invariant-loop-rest : goal.invariant-loop-rest
invariant-loop-rest l = are_apart l.columns ≡ are_apart l.rest

abbrev pub decreases-loop-rest : goal.decreases-loop-rest
decreases-loop-rest l = length l.rest
