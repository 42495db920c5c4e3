use Rattle.std.proofs.Common.{◌≡◌, ◌+◌, drop, map}
use Rattle.bt_portions.specs.inside.OwnedKeys.{owned_count}
use Rattle.bt_portions.proofs.key_shares.owned_count.Given as goal

-- all keys before the place are owned
abbrev pub invariant-loop-place : goal.invariant-loop-place
invariant-loop-place g l = owned_count l.portion (map (λ k. k.now) l.keys) ≡ l.place + owned_count l.portion (map (λ k. k.now) (drop l.place l.keys))
