-- What a run of all jobs guarantees.
use Rattle.std.specs.Prelude.{◌≡◌, ℕ, ◌<◌, List, [], length, map, get_or, Result, Ok, Err}
use mathlib.Core.Option.{some}
use lib.ListN.{get_elem?}
use Rattle.bt_gang.specs.declared.job_runs.GangFault.{GangFault}
use Rattle.bt_gang.specs.declared.job_runs.GangFault.TheVariants.{OutOfMemory, Job}
use Rattle.bt_value.specs.Lists.{concatenation}
use Rattle.bt_gang.specs.Numbers.{occurrences, once_below}
use Rattle.bt_gang.specs.Board.{State, IsReached}
use Rattle.bt_gang.specs.declared.crew.TheConstants.{MOST_WORKERS}
use Rattle.bt_gang.specs.Answers.{MayAnswer}

-- each number below n is in exactly one of the lists, once, and no other number is
abbrev pub EachOnce : ℕ → List (List ℕ) → Type 0
EachOnce n lists = (number : ℕ) → occurrences number (concatenation lists) ≡ once_below number n

-- a run of the board leads to a state in which this many jobs were put and none of them waits; each worker took its list, or nothing if it has no list
pub record AreAllTaken (n : ℕ) (lists : List (List ℕ)) : Type 0 where
  pub board : State
  pub reached : IsReached MOST_WORKERS board
  pub put : board.put ≡ n
  pub waiting : board.waiting ≡ []
  pub taken : (worker : ℕ) → get_or board.taken worker [] ≡ get_or lists worker []

module _ {J D F : Type 0} (allows : J → Result D F → Type 0) where
  -- at each number there is a value that its job may give
  abbrev pub Answered : List J → List D → Type 0
  Answered jobs done = (length done ≡ length jobs) × ((number : ℕ) (d : D) → get_elem? done number ≡ some d → MayAnswer allows jobs number (Ok d))

  -- if each job may give only one value, these are the values of the jobs, in order
  abbrev pub AreValues : List J → List D → Type 0
  AreValues jobs done = (value : J → D) → ((job : J) (d : D) → allows job (Ok d) → d ≡ value job) → done ≡ map value jobs

  -- for each job there is an answer that it may give
  abbrev pub HasAnswers : List J → Type 0
  HasAnswers jobs = (number : ℕ) → number < length jobs → (value : Result D F) × MayAnswer allows jobs number value

  -- the job may give this fault, each job with a smaller number may give a value, and for each job there is an answer that it may give
  abbrev pub IsLeast : List J → GangFault F → Type 0
  IsLeast jobs = elim [
    | OutOfMemory ↦ Unit
    | Job number fault ↦ MayAnswer allows jobs number (Err fault) × ((i : ℕ) → i < number → (d : D) × MayAnswer allows jobs i (Ok d)) × HasAnswers jobs
  ]
