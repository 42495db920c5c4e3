use Rattle.std.proofs.Common.{◌≡◌, ◌++◌, drop}
use Rattle.bt_fanout.specs.Entries.{picked}
use Rattle.bt_fanout.proofs.selecting.add_picked.Given as goal

abbrev pub invariant-loop-place : goal.invariant-loop-place
invariant-loop-place l = l.fn.values ++ picked l.places l.row ≡ l.values ++ picked (drop l.place-index l.places) l.row
