-- The places of answers, one for each job.
use Rattle.std.specs.Prelude.{◌≡◌, ℕ, ◌<◌, ◌≤◌, List, [], ◌∷◌, ◌++◌, length, Option, Some, None, Result, Ok, Err, set, replicate, vec_capacity, ⊤}
use mathlib.Core.Option.{some}
use lib.ListN.{get_elem?}
use Rattle.bt_gang.specs.declared.answers.Answer.{Answer}
use Rattle.bt_gang.specs.declared.answers.Answers.{Answers}
use Rattle.bt_gang.specs.declared.job_runs.GangFault.{GangFault}
use Rattle.bt_gang.specs.declared.job_runs.GangFault.TheVariants.{OutOfMemory, Job}
use Rattle.bt_gang.specs.declared.run_room.Places.{Places}
use Rattle.bt_gang.specs.Numbers.{occurrences}
use Rattle.bt_gang.specs.Numbered.{numbered, present}
use Rattle.bt_gang.specs.Answers.{MayAnswer}

module _ {D F : Type 0} where
  abbrev pub AllBelow : ℕ → List (Answer D F) → Type 0
  AllBelow n [] = ⊤
  AllBelow n (a ∷ rest) = (a.number < n) × AllBelow n rest

  -- the places after these answers were put in
  abbrev pub puts : List (Option (Result D F)) → List (Answer D F) → List (Option (Result D F))
  puts slots [] = slots
  puts slots (a ∷ rest) = puts (set slots a.number (Some a.value)) rest

  -- places that have these values
  abbrev pub ok_slots : List D → List (Option (Result D F))
  ok_slots [] = []
  ok_slots (d ∷ ds) = Some (Ok d) ∷ ok_slots ds

  -- a worker's answers; none if it was not started
  abbrev pub answers_in : Option (Answers D F) → List (Answer D F)
  answers_in None = []
  answers_in (Some a) = present a.list

  -- the numbers of a worker's answers; none if it was not started
  abbrev pub numbers_in : Option (Answers D F) → List ℕ
  numbers_in None = []
  numbers_in (Some a) = numbered (present a.list)

  -- no place is empty
  abbrev pub IsFull : List (Option (Result D F)) → Type 0
  IsFull slots = (place : ℕ) → ¬ (get_elem? slots place ≡ some None)

  -- empty places for the results of this many jobs, run by this many workers
  pub record AreEmptyPlaces (workers jobs : ℕ) (places : Places D F) : Type 0 where
    pub slots : places.slots.items ≡ replicate jobs None
    pub taken : (places.taken.items ≡ []) × (workers ≤ vec_capacity places.taken)
    pub done : (places.done.items ≡ []) × (jobs ≤ vec_capacity places.done)

  -- what a fault means for the places: out of memory, that one is empty; the fault of a job, that none is empty, that the fault is at its number,
  -- and that there are values before it
  abbrev pub IsFaultAmong : List (Option (Result D F)) → GangFault F → Type 0
  IsFaultAmong slots = elim [
    | OutOfMemory ↦ (place : ℕ) × (get_elem? slots place ≡ some None)
    | Job number fault ↦ IsFull slots × ((before : List D) × (after : List (Option (Result D F))) × (length before ≡ number) × (slots ≡ ok_slots before ++ Some (Err fault) ∷ after))
  ]

module _ {J D F : Type 0} (allows : J → Result D F → Type 0) where
  -- the places of the numbers that came in are full, each with an answer that its job may give, and the others are empty
  pub record Filled (jobs : List J) (slots : List (Option (Result D F))) (came : List ℕ) : Type 0 where
    pub size : length slots ≡ length jobs
    pub may : (i : ℕ) (value : Result D F) → get_elem? slots i ≡ some (Some value) → MayAnswer allows jobs i value
    pub full : (i : ℕ) (value : Result D F) → get_elem? slots i ≡ some (Some value) → 0 < occurrences i came
    pub empty : (i : ℕ) → get_elem? slots i ≡ some None → occurrences i came ≡ 0
