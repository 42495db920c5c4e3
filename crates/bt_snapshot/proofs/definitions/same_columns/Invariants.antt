use Rattle.std.proofs.Common.{◌≡◌, length}
use Rattle.std.specs.Cmp.Lexicographic.{pointwise}
use Rattle.bt_snapshot.specs.inside.Sameness.{same_column}
use Rattle.bt_snapshot.proofs.definitions.same_columns.Given as goal

-- the result depends only on the columns from here on
abbrev pub invariant-loop-rest : goal.invariant-loop-rest
invariant-loop-rest l = pointwise same_column l.first l.second ≡ pointwise same_column l.rest l.others

abbrev pub decreases-loop-rest : goal.decreases-loop-rest
decreases-loop-rest l = length l.rest
