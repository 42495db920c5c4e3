-- Lists of numbers of jobs and of workers.
use Rattle.std.specs.Prelude.{ℕ, zero, suc, ◌+◌, List, [], ◌∷◌, ◌++◌, nat_eq, nat_lt, if◌then◌else◌}

-- the sum of f over the items
abbrev pub sum_over : {X : Type 0} → (X → ℕ) → List X → ℕ
sum_over f [] = 0
sum_over f (x ∷ xs) = f x + sum_over f xs

-- 1 for this number, 0 for any other
abbrev pub is_it : ℕ → ℕ → ℕ
is_it x y = if nat_eq y x then 1 else 0

-- how often x is in the list
abbrev pub occurrences : ℕ → List ℕ → ℕ
occurrences x xs = sum_over (is_it x) xs

-- the numbers from 0 to n - 1
abbrev pub below : ℕ → List ℕ
below zero = []
below (suc n) = below n ++ n ∷ []

-- 1 for a number below n, 0 for any other
abbrev pub once_below : ℕ → ℕ → ℕ
once_below x n = if nat_lt x n then 1 else 0
