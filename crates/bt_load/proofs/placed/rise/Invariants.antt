use Rattle.std.proofs.Common.{◌≤◌}
use Rattle.std.specs.List.{AllAdjacentBelow}
use Rattle.bt_load.specs.inside.Sorts.{IsKeyBelow}
use Rattle.bt_load.proofs.placed.rise.Given as goal

abbrev pub invariant-loop-place : goal.invariant-loop-place
invariant-loop-place l = (1 ≤ l.place) × AllAdjacentBelow IsKeyBelow l.placed l.place
