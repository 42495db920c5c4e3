-- The sizes of a crew.
use Rattle.std.specs.Prelude.{ℕ, ◌≤◌}

-- the most workers of a crew
abbrev pub largest_crew : ℕ
largest_crew = 64

-- the largest depth at which a tree is cut into jobs
abbrev pub deepest_cut : ℕ
deepest_cut = 6

-- the largest grain of a crew
abbrev pub largest_grain : ℕ
largest_grain = 65536

abbrev pub IsCrew : ℕ → ℕ → ℕ → Type 0
IsCrew workers cut grain = ((1 ≤ workers) × (workers ≤ largest_crew)) × ((1 ≤ cut) × (cut ≤ deepest_cut)) × ((1 ≤ grain) × (grain ≤ largest_grain))
