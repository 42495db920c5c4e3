use Rattle.std.proofs.Common.{ℕ, ◌<◌, ◌≡◌, None}
use mathlib.Core.Option.{some}
use lib.ListN.{get_elem?}
use Rattle.bt_gang.proofs.slots.is_full.Given as goal

abbrev pub invariant-loop-place : goal.invariant-loop-place
invariant-loop-place g l = (i : ℕ) → i < l.place → ¬ (get_elem? l.slots.items i ≡ some None)
