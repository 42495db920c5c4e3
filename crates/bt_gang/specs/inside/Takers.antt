-- How a board is stored: the worker that took each job, in the order of the jobs.
use Rattle.std.specs.Prelude.{ℕ, suc, List, [], ◌∷◌, length, map, drop, Option, nat_eq, if◌then◌else◌}
use Rattle.bt_gang.specs.Numbers.{below}
use Rattle.bt_gang.specs.Board.{State, state}

-- the places with this worker, counted from `at`
abbrev pub places : ℕ → ℕ → List ℕ → List ℕ
places worker at [] = []
places worker at (t ∷ ts) = if nat_eq t worker then at ∷ places worker (suc at) ts else places worker (suc at) ts

-- the jobs that each of this many workers took
abbrev pub lists_of : ℕ → List ℕ → List (List ℕ)
lists_of workers takers = map (λ worker. places worker 0 takers) (below workers)

-- the state of the board; the jobs after the last one taken wait
abbrev pub kept_state : ℕ → List ℕ → List (Option ℕ) → List ℕ → State
kept_state put takers held handed = state put (drop (length takers) (below put)) held (lists_of (length held) takers) handed
