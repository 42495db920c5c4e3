-- Marks of children, written one by one at their places.
use Rattle.std.specs.Prelude.{ℕ, Bool, true, false, List, [], ◌∷◌, set, replicate}

-- true at each of these places
abbrev pub set_all : List ℕ → List Bool → List Bool
set_all [] marks = marks
set_all (i ∷ is) marks = set_all is (set marks i true)

-- for each of n children, whether its place is among these
abbrev pub marks_of : ℕ → List ℕ → List Bool
marks_of n places = set_all places (replicate n false)
