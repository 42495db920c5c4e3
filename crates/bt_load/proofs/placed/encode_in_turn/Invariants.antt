use Rattle.std.proofs.Common.{◌≡◌, ◌++◌, drop}
use Rattle.bt_load.specs.inside.Sorts.{placed_from}
use Rattle.bt_load.proofs.placed.encode_in_turn.Given as goal

-- the keys so far come before those of the rows that are left
abbrev pub invariant-loop-place : goal.invariant-loop-place
invariant-loop-place l = l.placed.items ++ placed_from l.keys l.place (drop l.place l.rows) ≡ placed_from l.keys 0 l.rows
