-- The order of keys and places.
use Rattle.std.proofs.Common.{Bool, ℕ}
use Rattle.std.proofs.lemmas.List.Sorted.{ranks_by}
use Rattle.std.specs.Cmp.{IsStrictWeakOrder, nat_cmp_total, on_total, then_total}
use Rattle.std.specs.Ordering.{is_lt}
use Rattle.bt_keycode.specs.Keys.{Key}
use Rattle.bt_keycode.proofs.offered.Order.{total_keys}
use Rattle.bt_load.specs.Steps.{Placed, placed_cmp}

-- whether one comes before another
abbrev pub placed_before : Placed → Placed → Bool
placed_before a b = is_lt (placed_cmp a b)

pub placed_ranks : IsStrictWeakOrder placed_before
placed_ranks = ranks_by (then_total (on_total (λ (n : Key × ℕ). n.0) total_keys) (on_total (λ (n : Key × ℕ). n.1) nat_cmp_total)) (λ (p : Placed). (p.0, p.1))
