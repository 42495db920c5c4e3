-- Keys that were sorted by their places are in the order of keys and places.
use Rattle.std.proofs.Common.{◌≡◌, ℕ, ◌<◌, List, ap, get_or, length, ◌+◌, ◌∙◌}
use Rattle.std.specs.List.Sorted.{IsSorted}
use Rattle.std.specs.Ordering.{is_lt, nat_cmp, ordering_then}
use Rattle.bt_keycode.specs.Keys.{key_cmp}
use Rattle.bt_message.specs.Arrivals.{AreMovedInOrder, arrives_before, key_at}
use Rattle.bt_message.proofs.offered.Moved.{item, key_is, neighbours}
use Rattle.bt_load.specs.Steps.{AreAtTheirPlaces, Placed, no_key, placed_cmp}

module _ (old new : List Placed) (at : AreAtTheirPlaces old) (m : AreMovedInOrder old new) where
  abbrev here : ℕ → Placed
  here = item no_key old new m

  order_is : (i j : ℕ) → i < length old → j < length old → is_lt (placed_cmp (here i) (here j)) ≡ arrives_before old i j
  order_is i j l h =
      ap (λ k. is_lt (ordering_then (key_cmp k (here j).0) (nat_cmp (here i).1 (here j).1))) (key_is no_key old new m i l)
      ∙ ap (λ k. is_lt (ordering_then (key_cmp (key_at old i) k) (nat_cmp (here i).1 (here j).1))) (key_is no_key old new m j h)
      ∙ ap (λ n. is_lt (ordering_then (key_cmp (key_at old i) (key_at old j)) (nat_cmp n (here j).1))) (at i l)
      ∙ ap (λ n. is_lt (ordering_then (key_cmp (key_at old i) (key_at old j)) (nat_cmp i n))) (at j h)

  pub in_order : IsSorted placed_cmp new
  in_order k d z l =
      let n = neighbours no_key old new m k d l in
      ap (λ (b : Placed). is_lt (placed_cmp b (get_or new k d))) n.b_is ∙ ap (λ (a : Placed). is_lt (placed_cmp (here n.next) a)) n.a_is
      ∙ order_is n.next n.first n.next_within n.first_within
      ∙ n.order
