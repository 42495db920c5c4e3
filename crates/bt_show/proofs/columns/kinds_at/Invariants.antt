use Rattle.std.proofs.Common.{◌≡◌, map, take}
use Rattle.bt_show.specs.Ranges.{column_in}
use Rattle.bt_show.proofs.columns.kinds_at.Given as goal

-- the kinds so far
abbrev pub invariant-loop-place : goal.invariant-loop-place
invariant-loop-place l = l.kinds.items ≡ map (λ place. (column_in l.columns place).kind) (take l.place-index l.places)
