-- What holds for the answers of jobs.
use Rattle.std.specs.Prelude.{◌≡◌, ℕ, ◌+◌, ◌≤◌, List, [], ◌∷◌, ◌++◌, length, Result, ⊤}
use mathlib.Core.Option.{some}
use lib.ListN.{get_elem?}
use Rattle.bt_gang.specs.declared.answers.Answer.{Answer}
use Rattle.bt_gang.specs.declared.answers.Answers.{Answers}
use Rattle.bt_gang.specs.declared.rule.Known.{Known}
use Rattle.bt_gang.specs.Numbered.{numbered, present}
use Rattle.bt_gang.specs.Numbers.{occurrences, once_below}
use Rattle.bt_gang.specs.Queue.{gained, numbers_of, HasAll}

module _ {J D F : Type 0} (allows : J → Result D F → Type 0) where
  -- the job of this number may give this answer
  abbrev pub MayAnswer : List J → ℕ → Result D F → Type 0
  MayAnswer jobs number value = (job : J) × (get_elem? jobs number ≡ some job) × allows job value

  abbrev pub AllMay : List J → List (Answer D F) → Type 0
  AllMay jobs [] = ⊤
  AllMay jobs (a ∷ rest) = MayAnswer jobs a.number a.value × AllMay jobs rest

  -- the answers and the list of the pass grew by the same numbers, in the same order; each has an answer that its job may give, and took one
  -- spare place
  pub record Gains (before after : Known J) (old new : Answers D F) : Type 0 where
    pub added : List (Answer D F)
    pub list : present new.list ≡ present old.list ++ added
    pub pass : after ≡ gained before (numbered added)
    pub may : AllMay before.jobs added
    pub spare : new.spare + length added ≡ old.spare

module _ {J : Type 0} where
  -- the last pop found nothing: no job is twice in the lists of the pass, and if the pass has all lists, they have each job
  abbrev pub FoundNothing : Known J → Type 0
  FoundNothing v =
      (job : ℕ)
      → (occurrences job (numbers_of v.lists) ≤ once_below job (length v.jobs))
      × (HasAll v → occurrences job (numbers_of v.lists) ≡ once_below job (length v.jobs))
