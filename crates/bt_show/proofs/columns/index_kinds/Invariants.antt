use Rattle.std.proofs.Common.{◌≡◌, ◌++◌, map, take}
use Rattle.bt_show.proofs.columns.index_kinds.Given as goal

-- the kinds of the columns so far follow those that the index is ordered by
abbrev pub invariant-loop-column : goal.invariant-loop-column
invariant-loop-column l = l.kinds.items ≡ l.initial.kinds.items ++ map (λ c. c.kind) (take l.column-index l.column-items)
