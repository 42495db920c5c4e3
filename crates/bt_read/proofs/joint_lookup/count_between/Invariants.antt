use Rattle.std.proofs.Common.{◌≡◌, ◌+◌, Some, drop, map}
use Rattle.std.specs.Option.{option_copied}
use Rattle.bt_read.specs.inside.Together.{count_between}
use Rattle.bt_read.proofs.joint_lookup.count_between.Given as goal

-- the answer depends on the keys from here on
abbrev pub invariant-loop-place : goal.invariant-loop-place
invariant-loop-place l =
    count_between (Some l.low) (option_copied l.high) (map (λ k. k.now) l.keys) ≡ l.place + count_between (Some l.low) (option_copied l.high) (map (λ k. k.now) (drop l.place l.keys))
