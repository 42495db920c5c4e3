use Rattle.std.proofs.Common.{◌≡◌, ◌++◌, drop, map}
use Rattle.bt_table.specs.inside.IndexTrees.{of_head, of_target}
use Rattle.bt_table.proofs.index.targets_of.Given as goal

-- the indexes so far come before those from here on
abbrev pub invariant-loop-head : goal.invariant-loop-head
invariant-loop-head l = map of_head l.heads ≡ map of_target l.targets.items ++ map of_head (drop l.head-index l.heads)
