use Rattle.std.proofs.Common.{◌≡◌, ◌++◌, map, take}
use Rattle.bt_show.specs.Ranges.{column_in}
use Rattle.bt_show.proofs.columns.add_columns.Given as goal

-- the columns so far were copied
abbrev pub invariant-loop-place : goal.invariant-loop-place
invariant-loop-place l = l.shown ≡ l.fn.shown ++ map (column_in l.columns) (take l.place-index l.places)
