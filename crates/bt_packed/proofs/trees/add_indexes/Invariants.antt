use Rattle.std.proofs.Common.{◌≡◌, ◌++◌, length}
use Rattle.bt_table.specs.Indexes.{indexes_of_refs}
use Rattle.bt_packed.specs.Calls.{indexes_bytes}
use Rattle.bt_packed.proofs.trees.add_indexes.Given as goal

-- the bytes so far come before those of the indexes from here on
abbrev pub invariant-loop-index : goal.invariant-loop-index
invariant-loop-index l =
    l.fn.out.items ++ indexes_bytes l.fn.has_usage l.schema (indexes_of_refs l.fn.indexes) ≡ l.out.items ++ indexes_bytes l.fn.has_usage l.schema (indexes_of_refs l.rest)

abbrev pub decreases-loop-index : goal.decreases-loop-index
decreases-loop-index l = length (indexes_of_refs l.rest)
