use Rattle.std.proofs.Common.{◌≡◌, drop, map}
use Rattle.bt_row.specs.Ops.{named_from}
use Rattle.bt_show.specs.Ranges.{column_in}
use Rattle.bt_show.proofs.columns.find_placed.Given as goal

-- the columns from here on decide
abbrev pub invariant-loop-at : goal.invariant-loop-at
invariant-loop-at l = named_from 0 l.name (map (column_in l.columns) l.places) ≡ named_from l.at l.name (map (column_in l.columns) (drop l.at l.places))
