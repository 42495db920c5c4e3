use Rattle.std.proofs.Common.{◌≡◌, length}
use Rattle.std.specs.List.{list_all}
use Rattle.bt_table.specs.Indexes.{indexes_of_refs, is_complete}
use Rattle.bt_snapshot.proofs.compacting.are_complete.Given as goal

-- the result depends only on the remaining indexes
abbrev pub invariant-loop-index : goal.invariant-loop-index
invariant-loop-index l = list_all is_complete (indexes_of_refs l.fn.indexes) ≡ list_all is_complete (indexes_of_refs l.rest)

abbrev pub decreases-loop-index : goal.decreases-loop-index
decreases-loop-index l = length (indexes_of_refs l.rest)
