-- One pass over a list whose items have marks, which replaces the marked ones.
use Rattle.std.specs.Prelude.{◌≡◌, ℕ, zero, suc, Bool, true, false, cond, List, [], ◌∷◌, map}
use Rattle.std.specs.List.{flat_map}

-- the list with a mark at a place
abbrev pub marked : {X : Type 0} → ℕ → List (X × Bool) → List (X × Bool)
marked i [] = []
marked zero (s ∷ ss) = (s.0, true) ∷ ss
marked (suc i) (s ∷ ss) = s ∷ marked i ss

-- the list with a mark at each of these places
abbrev pub marked_all : {X : Type 0} → List ℕ → List (X × Bool) → List (X × Bool)
marked_all [] ss = ss
marked_all (i ∷ is) ss = marked_all is (marked i ss)

-- the list without a mark
abbrev pub unmarked : {X : Type 0} → List X → List (X × Bool)
unmarked = map (λ x. (x, false))

-- the list after one pass that replaces each item with a mark by its parts
abbrev pub after_pass : {X : Type 0} → (X → List X) → List (X × Bool) → List X
after_pass parts = flat_map (λ s. cond s.1 (parts s.0) (s.0 ∷ []))

-- each of these weighs nothing
abbrev pub IsLight : {X : Type 0} → (X → ℕ) → List X → Type 0
IsLight weight [] = Unit {0}
IsLight weight (x ∷ xs) = (weight x ≡ 0) × IsLight weight xs
