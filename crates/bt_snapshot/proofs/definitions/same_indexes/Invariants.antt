use Rattle.std.proofs.Common.{◌≡◌, length}
use Rattle.std.specs.Cmp.Lexicographic.{pointwise}
use Rattle.bt_table.specs.Indexes.{indexes_of_refs}
use Rattle.bt_snapshot.specs.inside.Sameness.{same_index}
use Rattle.bt_snapshot.proofs.definitions.same_indexes.Given as goal

-- the result depends only on the remaining indexes
abbrev pub invariant-loop-index : goal.invariant-loop-index
invariant-loop-index l = pointwise same_index (indexes_of_refs l.fn.first) (indexes_of_refs l.fn.second) ≡ pointwise same_index (indexes_of_refs l.rest) (indexes_of_refs l.others)

abbrev pub decreases-loop-index : goal.decreases-loop-index
decreases-loop-index l = length (indexes_of_refs l.rest)
