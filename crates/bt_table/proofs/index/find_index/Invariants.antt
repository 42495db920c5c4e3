use Rattle.std.proofs.Common.{◌≡◌, drop}
use Rattle.bt_table.specs.Indexes.{index_named_from, indexes_of}
use Rattle.bt_table.proofs.index.find_index.Given as goal

-- the indexes from here on decide
abbrev pub invariant-loop-place : goal.invariant-loop-place
invariant-loop-place l = index_named_from 0 l.name (indexes_of l.heads l.entries) ≡ index_named_from l.place l.name (indexes_of (drop l.place l.heads) (drop l.place l.entries))
