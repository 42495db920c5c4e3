use Rattle.std.proofs.Common.{length}
use Rattle.std.specs.Prelude.{⊤}
use Rattle.bt_table.specs.Indexes.{indexes_of_refs}
use Rattle.bt_snapshot.proofs.script_text.write_indexes.Given as goal

abbrev pub invariant-loop-index : goal.invariant-loop-index
invariant-loop-index l = ⊤

abbrev pub decreases-loop-index : goal.decreases-loop-index
decreases-loop-index l = length (indexes_of_refs l.rest)
