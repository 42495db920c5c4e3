use Rattle.std.proofs.Common.{◌≡◌, drop}
use Rattle.std.specs.List.{list_all}
use Rattle.bt_table.specs.inside.IndexTrees.{covers_all}
use Rattle.bt_table.proofs.index.are_complete.Given as goal

-- the indexes from here on decide
abbrev pub invariant-loop-head : goal.invariant-loop-head
invariant-loop-head l = list_all covers_all l.heads ≡ list_all covers_all (drop l.head-index l.heads)
