use Rattle.std.proofs.Common.{◌≡◌, drop, nat_lt}
use Rattle.std.specs.List.{list_all}
use Rattle.bt_fanout.proofs.definition.are_below.Given as goal

-- the places from here on decide
abbrev pub invariant-loop-place : goal.invariant-loop-place
invariant-loop-place l = list_all (λ place. nat_lt place l.columns) l.places ≡ list_all (λ place. nat_lt place l.columns) (drop l.place-index l.places)
