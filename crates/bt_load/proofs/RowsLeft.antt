-- Rows of which the next is taken: the others are what they were.
use Rattle.std.proofs.Common.{◌≡◌, ◌+◌, ◌<◌, ◌≤◌, ℕ, List, [], ◌∷◌, get_or, length, map, set, refl, sym, ◌∙◌, arith}
use Rattle.bt_value.specs.declared.value.Value.{Value}
use Rattle.bt_keycode.specs.Occurrences.{AreDistinctBelow, occurrences}
use Rattle.bt_keycode.proofs.offered.Occurrences.{AreLeft, first_within, occurrences-cons, occurrences-first, others_left, taken_is}
use Rattle.bt_load.specs.inside.Sorts.{pair_at, places_of}
use Rattle.bt_load.specs.Steps.{Placed}

-- what is at their places decides
same_pairs : (now first : List (List Value)) (placed : List Placed) → ((j : ℕ) → 1 ≤ occurrences j (places_of placed) → get_or now j [] ≡ get_or first j []) →
    map (pair_at now) placed ≡ map (pair_at first) placed
same_pairs now first [] same = refl
same_pairs now first (p ∷ placed) same =
    let here : get_or now p.1 [] ≡ get_or first p.1 [] = same p.1 (omega (arith, occurrences-first p.1 (places_of placed))) in
    let others = same_pairs now first placed (λ j some. same j (omega (arith, occurrences-cons j p.1 (places_of placed), some))) in
    λ i. (p.0, here i) ∷ others i

module _ (rows : List (List Value)) (p : Placed) (placed : List Placed) (distinct : AreDistinctBelow (length rows) (places_of (p ∷ placed))) where
  left : AreLeft [] rows rows (p.1 ∷ places_of placed)
  left = record { same = λ j some. refl; distinct = distinct }

  pub next_within : p.1 < length rows
  next_within = first_within [] rows rows p.1 (places_of placed) left

  -- whatever is there in place of an absent row
  pub next_is : (x other : List Value) → x ≡ get_or rows p.1 other → x ≡ get_or rows p.1 []
  next_is = taken_is [] rows rows p.1 (places_of placed) left

  pub others_distinct : (x : List Value) → AreDistinctBelow (length (set rows p.1 x)) (places_of placed)
  others_distinct x = (others_left [] rows rows p.1 (places_of placed) left x).distinct

  pub others_same : (x : List Value) → map (pair_at (set rows p.1 x)) placed ≡ map (pair_at rows) placed
  others_same x = same_pairs (set rows p.1 x) rows placed (others_left [] rows rows p.1 (places_of placed) left x).same
