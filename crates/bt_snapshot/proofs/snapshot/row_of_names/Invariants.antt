use Rattle.std.proofs.Common.{◌≡◌, ◌++◌, drop, map}
use Rattle.bt_snapshot.specs.inside.Compacting.{name_value}
use Rattle.bt_snapshot.proofs.snapshot.row_of_names.Given as goal

-- the names so far come before those of the columns from here on
abbrev pub invariant-loop-column : goal.invariant-loop-column
invariant-loop-column l = map name_value l.columns ≡ l.row ++ map name_value (drop l.column-index l.columns)
