-- Answers by the numbers of their jobs.
use Rattle.std.specs.Prelude.{ℕ, List, [], ◌∷◌, Option, Some, None, map}
use Rattle.bt_gang.specs.declared.answers.Answer.{Answer}

-- the numbers of the answers, in order
abbrev pub numbered : {D F : Type 0} → List (Answer D F) → List ℕ
numbered {D} {F} answers = map (λ (a : Answer D F). a.number) answers

-- the answers at these places, without the empty places
abbrev pub present : {D F : Type 0} → List (Option (Answer D F)) → List (Answer D F)
present [] = []
present (None ∷ rest) = present rest
present (Some a ∷ rest) = a ∷ present rest
