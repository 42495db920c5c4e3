use Rattle.std.proofs.Common.{◌≡◌, drop}
use Rattle.bt_table.specs.inside.IndexTrees.{widest}
use Rattle.bt_table.proofs.index.widest_cover.Given as goal

-- the indexes from here on decide
abbrev pub invariant-loop-head : goal.invariant-loop-head
invariant-loop-head l = widest l.cover l.heads ≡ widest l.widest (drop l.head-index l.heads)
