use Rattle.std.proofs.Common.{◌≡◌, ◌++◌, List, drop, map}
use Rattle.bt_fanout.specs.declared.effect.Effect.{Effect}
use Rattle.bt_table.specs.inside.IndexTrees.{count_for, packet_for}
use Rattle.bt_table.proofs.index.sent_counts.Given as goal

-- the numbers so far come before those of the indexes from here on
abbrev pub invariant-loop-place : goal.invariant-loop-place
invariant-loop-place l =
    (effects : List Effect) → l.packets ≡ map (packet_for effects) l.heads → map (count_for effects) l.heads ≡ l.sent ++ map (count_for effects) (drop l.place l.heads)
