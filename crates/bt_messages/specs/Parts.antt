-- A list in parts of given sizes, and sums of numbers.
use Rattle.std.specs.Prelude.{ℕ, ◌+◌, List, [], ◌∷◌, drop, take}

-- the sum of numbers
abbrev pub total : List ℕ → ℕ
total [] = 0
total (n ∷ ns) = n + total ns

-- the items in parts of these sizes, in order
abbrev pub parted : {X : Type 0} → List ℕ → List X → List (List X)
parted [] xs = []
parted (n ∷ ns) xs = take n xs ∷ parted ns (drop n xs)
