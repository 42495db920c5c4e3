use Rattle.std.proofs.Common.{◌≡◌, ◌++◌, take}
use Rattle.bt_show.proofs.columns.add_all.Given as goal

-- the columns so far were copied
abbrev pub invariant-loop-column : goal.invariant-loop-column
invariant-loop-column l = l.shown ≡ l.fn.shown ++ take l.column-index l.columns
