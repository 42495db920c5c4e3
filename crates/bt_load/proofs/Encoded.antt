-- Keys that are encoded one by one.
use Rattle.std.proofs.Common.{◌≡◌, ℕ, suc, ◌+◌, ◌<◌, List, [], ◌∷◌, get_or, length, refl, ap, ◌∙◌, arith}
use Rattle.bt_value.specs.declared.value.Value.{Value}
use Rattle.bt_keycode.specs.Standing.{row_key}
use Rattle.bt_load.specs.Steps.{AreKeysOrNone, Placed, no_key}
use Rattle.bt_load.specs.inside.Sorts.{HaveKeys, placed_from}
use Rattle.bt_load.proofs.Repeats.{same_placed}

-- keys with the places of rows from a place on
keys_from : (keys place : ℕ) (rows : List (List Value)) (placed : List Placed) → length placed ≡ length rows
    → ((k : ℕ) → k < length placed → get_or placed k no_key ≡ (row_key keys (get_or rows k []), place + k))
    → placed ≡ placed_from keys place rows
keys_from keys place [] [] long are = refl
keys_from keys place [] (p ∷ placed) long are = absurd (omega (arith, long))
keys_from keys place (row ∷ rows) [] long are = absurd (omega (arith, long))
keys_from keys place (row ∷ rows) (p ∷ placed) long are =
    let here : place + 0 ≡ place = omega arith in
    let first = are 0 (omega arith) ∙ same_placed (row_key keys row) (place + 0) place here in
    let others = keys_from keys (place + 1) rows placed (omega (arith, long)) (λ k low.
    let next : place + suc k ≡ place + 1 + k = omega arith in
    are (suc k) (omega (arith, low)) ∙ same_placed (row_key keys (get_or rows k [])) (place + suc k) (place + 1 + k) next)
    in
    (λ i. first i ∷ others i)

-- if no key is empty, they are those of the rows
pub all_keys : (keys : ℕ) (rows : List (List Value)) (placed : List Placed) → length placed ≡ length rows → AreKeysOrNone keys 0 rows placed → HaveKeys placed
    → placed ≡ placed_from keys 0 rows
all_keys keys rows placed long are some =
    keys_from keys 0 rows placed long (λ k low.
    let here : 0 + k ≡ k = omega arith in
    are k low (some k low) ∙ ap (λ n. (row_key keys (get_or rows n []), 0 + k)) here)
