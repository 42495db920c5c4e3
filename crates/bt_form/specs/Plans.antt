-- The children that are flushed, determined by their loads.
use Rattle.std.specs.Prelude.{ℕ, zero, suc, ◌+◌, max, cond, nat_le, nat_eq, List, [], ◌∷◌, set}
pub use Rattle.bt_messages.specs.Parts.{total}

-- the largest load
abbrev pub most : List ℕ → ℕ
most [] = 0
most (n ∷ ns) = max n (most ns)

-- the leftmost place of a load
abbrev pub place_of : ℕ → List ℕ → ℕ
place_of m [] = 0
place_of m (n ∷ ns) = cond (nat_eq n m) 0 (suc (place_of m ns))

-- the leftmost place of the largest load
abbrev pub fullest : List ℕ → ℕ
fullest loads = place_of (most loads) loads

-- each load with its place, counted from k
abbrev pub placed : ℕ → List ℕ → List (ℕ × ℕ)
placed k [] = []
placed k (n ∷ ns) = (k, n) ∷ placed (suc k) ns

-- a place and its load, inserted into others by falling load, before its equals
abbrev pub ranked_in : ℕ × ℕ → List (ℕ × ℕ) → List (ℕ × ℕ)
ranked_in x [] = x ∷ []
ranked_in x (y ∷ ys) = cond (nat_le y.1 x.1) (x ∷ y ∷ ys) (y ∷ ranked_in x ys)

-- by falling load, equal loads from left to right
abbrev pub ranked : List (ℕ × ℕ) → List (ℕ × ℕ)
ranked [] = []
ranked (x ∷ xs) = ranked_in x (ranked xs)

-- the total load of these places
abbrev pub total_of : List (ℕ × ℕ) → ℕ
total_of [] = 0
total_of (x ∷ xs) = x.1 + total_of xs

-- the places of the shortest prefix after which the other loads are at most the capacity together
abbrev pub shortest : ℕ → List (ℕ × ℕ) → List ℕ
shortest capacity [] = []
shortest capacity (x ∷ xs) = cond (nat_le (x.1 + total_of xs) capacity) [] (x.0 ∷ shortest capacity xs)

-- The children that are flushed, in order: the fullest first, until no more than the capacity is pending.
abbrev pub planned : List ℕ → ℕ → List ℕ
planned loads capacity = shortest capacity (ranked (placed 0 loads))

-- The same without a plan: while more than the capacity is pending, the fullest is emptied, and the choice is made again. The number of steps is bounded. If
-- the bound is the sum of the loads, it never stops early: clauses `places` and `renewed` of the call `plan` of bt_plan.
abbrev pub renewed : ℕ → ℕ → List ℕ → List ℕ
renewed capacity zero loads = []
renewed capacity (suc turns) loads =
    cond (nat_le (total loads) capacity) [] (fullest loads ∷ renewed capacity turns (set loads (fullest loads) 0))
