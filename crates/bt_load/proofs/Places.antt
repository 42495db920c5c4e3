-- The places of sorted keys, each once, for `with_rows`. Of two equal keys, one place comes first.
use Rattle.std.proofs.Common.{◌≡◌, ℕ, zero, suc, ◌+◌, ◌<◌, ◌≤◌, List, [], ◌∷◌, get_or, length, refl, ◌∙◌, arith, subst}
use Rattle.std.proofs.lemmas.List.Sorted.{IsPermutation-map}
use Rattle.std.specs.List.Sorted.{IsPermutation}
use Rattle.bt_value.specs.declared.value.Value.{Value}
use Rattle.bt_keycode.specs.Occurrences.{AreDistinctBelow, occurrences}
use Rattle.bt_keycode.proofs.offered.Occurrences.{distinct_first, distinct_moved, distinct_none, occurrences-cons, occurrences-first, occurrences-other}
use Rattle.bt_load.specs.inside.Sorts.{placed_from, places_of}
use Rattle.bt_load.specs.Steps.{Placed}

-- the places of rows: none before the first, and each once
none_before : (keys place : ℕ) (rows : List (List Value)) (j : ℕ) → j < place → occurrences j (places_of (placed_from keys place rows)) ≡ 0
none_before keys place [] j low = refl
none_before keys place (row ∷ rows) j low =
    occurrences-other j place (places_of (placed_from keys (place + 1) rows)) (λ e. omega (arith, e, low)) ∙ none_before keys (place + 1) rows j (omega (arith, low))

distinct_from : (keys place bound : ℕ) (rows : List (List Value)) → place + length rows ≤ bound → AreDistinctBelow bound (places_of (placed_from keys place rows))
distinct_from keys place bound [] far = distinct_none bound
distinct_from keys place bound (row ∷ rows) far =
    distinct_first bound place (places_of (placed_from keys (place + 1) rows)) (omega (arith, far))
    (none_before keys (place + 1) rows place (omega arith))
    (distinct_from keys (place + 1) bound rows (omega (arith, far)))

-- the same for the keys after a sort
pub distinct_placed : (keys : ℕ) (rows : List (List Value)) (placed : List Placed) → IsPermutation (placed_from keys 0 rows) placed → AreDistinctBelow (length rows) (places_of placed)
distinct_placed keys rows placed moved =
    distinct_moved (length rows) (places_of (placed_from keys 0 rows)) (places_of placed)
    (IsPermutation-map (λ (p : Placed). p.1) (placed_from keys 0 rows) placed moved)
    (distinct_from keys 0 (length rows) rows (omega arith))

-- ---- two of them at one place

occurs_at : (placed : List Placed) (n : ℕ) (d : Placed) → n < length placed → 1 ≤ occurrences (get_or placed n d).1 (places_of placed)
occurs_at [] n d within = absurd (omega (arith, within))
occurs_at (p ∷ placed) zero d within = let one = occurrences-first p.1 (places_of placed) in omega (arith, one)
occurs_at (p ∷ placed) (suc n) d within =
    let ahead = occurrences-cons (get_or placed n d).1 p.1 (places_of placed) in
    let some = occurs_at placed n d (omega (arith, within)) in
    omega (arith, ahead, some)

pub occurs_twice : (placed : List Placed) (m n : ℕ) (d : Placed) → m < n → n < length placed → (get_or placed m d).1 ≡ (get_or placed n d).1
    → 2 ≤ occurrences (get_or placed n d).1 (places_of placed)
occurs_twice [] m n d below within same = absurd (omega (arith, within))
occurs_twice (p ∷ placed) m zero d below within same = absurd (omega (arith, below))
occurs_twice (p ∷ placed) zero (suc n) d below within same =
    let i = (get_or placed n d).1 in
    let one : occurrences i (p.1 ∷ places_of placed) ≡ 1 + occurrences i (places_of placed) =
    subst (λ j. occurrences j (p.1 ∷ places_of placed) ≡ 1 + occurrences j (places_of placed)) same (occurrences-first p.1 (places_of placed)) in
    let some = occurs_at placed n d (omega (arith, within)) in
    omega (arith, one, some)
occurs_twice (p ∷ placed) (suc m) (suc n) d below within same =
    let ahead = occurrences-cons (get_or placed n d).1 p.1 (places_of placed) in
    let two = occurs_twice placed m n d (omega (arith, below)) (omega (arith, within)) same in
    omega (arith, ahead, two)
