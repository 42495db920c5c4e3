-- The keys of rows with the places of the rows, and neighbours in their order.
use Rattle.std.specs.Prelude.{ℕ, ◌≡◌, ◌≢◌, ◌+◌, ◌-◌, ◌<◌, ◌≤◌, Bool, true, List, [], ◌∷◌, get_or, length, map, min, Option, Some, None, MatchOption}
use Rattle.std.specs.Ordering.{eq_by_cmp}
use Rattle.std.specs.declared.cmp.Ordering.TheVariants.{Less}
use Rattle.bt_value.specs.declared.value.Value.{Value}
use Rattle.bt_keycode.specs.Keys.{Key, key_cmp}
use Rattle.bt_keycode.specs.Standing.{row_key}
use Rattle.bt_load.specs.Steps.{Placed, no_key}

-- the keys of rows, the first of which has this place
abbrev pub placed_from : ℕ → ℕ → List (List Value) → List Placed
placed_from keys place [] = []
placed_from keys place (row ∷ rows) = (row_key keys row, place) ∷ placed_from keys (place + 1) rows

-- no key is empty
abbrev pub HaveKeys : List Placed → Type 0
HaveKeys placed = (k : ℕ) → k < length placed → (get_or placed k no_key).0 ≢ []

-- the key of one is smaller than that of another
abbrev pub IsKeyBelow : Placed → Placed → Type 0
IsKeyBelow a b = key_cmp a.0 b.0 ≡ Less

-- the places of rows, without their keys
abbrev pub places_of : List Placed → List ℕ
places_of = map (λ p. p.1)

-- a key with the row at its place
abbrev pub pair_at : List (List Value) → Placed → Key × List Value
pair_at rows p = (p.0, get_or rows p.1 [])

-- ---- repeats

-- the item at a place in order
abbrev pub at : List Placed → ℕ → Placed
at placed n = get_or placed n no_key

-- whether the key at a place in order, which is not the first, equals the one before it
abbrev pub repeats_at : List Placed → ℕ → Bool
repeats_at placed n = eq_by_cmp key_cmp (at placed (n - 1)).0 (at placed n).0

-- one of these repeats the key before it
pub record Repeats (placed : List Placed) (n : ℕ) : Type 0 where
  pub some : 1 ≤ n
  pub within : n < length placed
  pub same : repeats_at placed n ≡ true

-- none of the first keys in order repeats the key before it, or this is the smallest place of one that does
abbrev pub IsFirstRepeat : List Placed → ℕ → Option ℕ → Type 0
IsFirstRepeat placed most found = MatchOption found ((n : ℕ) → n < most → Repeats placed n → ⊥)
    (λ place. ((n : ℕ) × Repeats placed n × ((at placed n).1 ≡ place)) × ((n : ℕ) → n < most → Repeats placed n → place ≤ (at placed n).1))

-- the smaller of a place that was found, if one was, and another place
abbrev pub lower_of : Option ℕ → ℕ → ℕ
lower_of None place = place
lower_of (Some found) place = min found place
