use Rattle.std.proofs.Common.{◌≡◌, ◌++◌, drop, map}
use Rattle.bt_table.specs.inside.IndexTrees.{entry_tree}
use Rattle.bt_table.proofs.index.pack_entries.Given as goal

-- the trees so far come before those of the indexes from here on
abbrev pub invariant-loop-head : goal.invariant-loop-head
invariant-loop-head g l = map (λ head. entry_tree l.shape l.rows head.def) l.heads ≡ l.entries.items ++ map (λ head. entry_tree l.shape l.rows head.def) (drop l.head-index l.heads)
