use Rattle.std.proofs.Common.{◌≡◌, ℕ, ◌<◌, ◌≤◌, get_or}
use Rattle.bt_messages.specs.Shares.{counts}
use Rattle.bt_messages.proofs.share.filled_place.Given as goal

abbrev pub invariant-loop-place : goal.invariant-loop-place
invariant-loop-place l = (j : ℕ) → l.from ≤ j → j < l.place → get_or (counts l.shares) j 0 ≡ 0
