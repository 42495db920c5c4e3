-- A list in which the heaviest item is replaced by its parts, repeatedly.
use Rattle.std.specs.Prelude.{ℕ, zero, suc, cond, nat_le, List, [], ◌∷◌, ◌++◌, map, take, drop}
use Rattle.std.specs.List.{flat_map}
use Rattle.bt_form.specs.Plans.{total, fullest}

module _ {X : Type 0} (weight : X → ℕ) (parts : X → List X) where
  -- the list with the item at a place replaced by its parts
  abbrev pub opened_at : ℕ → List X → List X
  opened_at i [] = []
  opened_at zero (x ∷ xs) = parts x ++ xs
  opened_at (suc i) (x ∷ xs) = x ∷ opened_at i xs

  -- While the total weight is over the capacity, the leftmost of the heaviest items is replaced by its parts, and the choice is made again. The number of
  -- steps is bounded. With the bound of `flushed_over` the loop never stops early: clause `in_turn` of the call `absorb_alone`.
  abbrev pub after_turns : ℕ → ℕ → List X → List X
  after_turns capacity zero xs = xs
  after_turns capacity (suc turns) xs =
      cond (nat_le (total (map weight xs)) capacity) xs (after_turns capacity turns (opened_at (fullest (map weight xs)) xs))

  -- The items that this loop replaces, in order. If they are children, the bound never stops the loop early: clause `planned` of the call `absorb_alone`.
  abbrev pub opened_items : ℕ → ℕ → List X → List X
  opened_items capacity zero xs = []
  opened_items capacity (suc turns) xs =
      let i = fullest (map weight xs) in
      cond (nat_le (total (map weight xs)) capacity) [] (take 1 (drop i xs) ++ opened_items capacity turns (opened_at i xs))

-- the items at these places, in this order
abbrev pub items_at : {X : Type 0} → List ℕ → List X → List X
items_at is xs = flat_map (λ i. take 1 (drop i xs)) is
