-- The rule of the queue: the jobs that wait in it and those that the passes took are a state of the board.
use Rattle.std.specs.Prelude.{◌≡◌, ℕ, ◌<◌, ◌≤◌, List, [], ◌∷◌, ◌++◌, length, map, get_or, ⊤}
use mathlib.Core.Option.{some}
use lib.ListN.{get_elem?}
use Rattle.bt_gang.specs.declared.rule.Known.{Known}
use Rattle.bt_gang.specs.declared.rule.NumberedJob.{NumberedJob}
use Rattle.bt_gang.specs.declared.rule.TakenList.{TakenList}
use Rattle.bt_value.specs.Lists.{concatenation}
use Rattle.bt_gang.specs.Numbers.{sum_over, occurrences, below, once_below}
use Rattle.bt_gang.specs.Board.{State, IsReached}
use Rattle.bt_gang.specs.declared.crew.TheConstants.{MOST_WORKERS}

abbrev pub taken_list : ℕ → List ℕ → TakenList
taken_list worker numbers = record { worker = worker; numbers = numbers }

-- the lists of this many workers, which took nothing
abbrev pub no_lists : ℕ → List TakenList
no_lists workers = map (λ worker. taken_list worker []) (below workers)

-- the lists after these numbers were added to the first of them
abbrev pub grown : List ℕ → List TakenList → List TakenList
grown more [] = []
grown more (l ∷ ls) = taken_list l.worker (l.numbers ++ more) ∷ ls

-- the second list, which is given to a new pass
abbrev pub list_given : List TakenList → List TakenList
list_given [] = []
list_given (a ∷ []) = []
list_given (a ∷ b ∷ ls) = b ∷ []

-- the lists that are kept
abbrev pub lists_kept : List TakenList → List TakenList
lists_kept [] = []
lists_kept (a ∷ []) = a ∷ []
lists_kept (a ∷ b ∷ ls) = a ∷ ls

-- the workers whose lists these are
abbrev pub workers_of : List TakenList → List ℕ
workers_of ls = map (λ (l : TakenList). l.worker) ls

-- the numbers in all the lists
abbrev pub numbers_of : List TakenList → List ℕ
numbers_of ls = concatenation (map (λ (l : TakenList). l.numbers) ls)

-- each list has what its worker took
abbrev pub AreOwnLists : List (List ℕ) → List TakenList → Type 0
AreOwnLists taken [] = ⊤
AreOwnLists taken (l ∷ ls) = (get_or taken l.worker [] ≡ l.numbers) × AreOwnLists taken ls

module _ {J : Type 0} where
  abbrev pub known : List J → List TakenList → Known J
  known jobs lists = record { jobs = jobs; lists = lists }

  -- the pass also took these numbers
  abbrev pub gained : Known J → List ℕ → Known J
  gained v more = known v.jobs (grown more v.lists)

  -- the pass has a list, so it belongs to a worker
  abbrev pub HasList : Known J → Type 0
  HasList v = 0 < length v.lists

  -- the pass has the lists of all workers
  abbrev pub HasAll : Known J → Type 0
  HasAll v = length v.lists ≡ MOST_WORKERS

  -- P holds for what each pass knows
  abbrev pub EachPass : (Known J → Type 0) → List (Known J) → Type 0
  EachPass P views = (port : ℕ) (v : Known J) → get_elem? views port ≡ some v → P v

  -- what one pass learns of the board: a run leads to a state in which as many jobs were put as the pass knows, and these numbers wait;
  -- each list of the pass has what its worker took; no worker has two lists in the pass
  pub record IsBoardOf (workers : ℕ) (v : Known J) (left : List ℕ) : Type 0 where
    pub board : State
    pub reached : IsReached workers board
    pub put : board.put ≡ length v.jobs
    pub waiting : board.waiting ≡ left
    pub taken : AreOwnLists board.taken v.lists
    pub apart : (worker : ℕ) → occurrences worker (workers_of v.lists) ≤ once_below worker workers

  -- the board that a pass knows, with no job waiting
  abbrev pub NothingWaits : Known J → Type 0
  NothingWaits v = IsBoardOf MOST_WORKERS v []

-- jobs with their numbers, and with room of any type, which the rule does not depend on
module _ {J P : Type 0} where
  -- the numbers of the jobs in the queue
  abbrev pub queued : List (NumberedJob J P) → List ℕ
  queued items = map (λ (item : NumberedJob J P). item.number) items

  -- each job in the queue is the job of its number
  abbrev pub Stand : List J → List (NumberedJob J P) → Type 0
  Stand jobs [] = ⊤
  Stand jobs (item ∷ items) = (get_elem? jobs item.number ≡ some item.job) × Stand jobs items

  -- a run of the board leads to a state with these queued jobs and taken lists; each worker's list is in one pass, once; a pass that has a
  -- list knows the jobs
  pub record IsBoard (workers : ℕ) (items : List (NumberedJob J P)) (views : List (Known J)) : Type 0 where
    pub jobs : List J
    pub board : State
    pub reached : IsReached workers board
    pub put : board.put ≡ length jobs
    pub waiting : board.waiting ≡ queued items
    pub stand : Stand jobs items
    pub taken : EachPass (λ v. AreOwnLists board.taken v.lists) views
    pub apart : (worker : ℕ) → sum_over (λ (v : Known J). occurrences worker (workers_of v.lists)) views ≡ once_below worker workers
    pub know : EachPass (λ v. HasList v → v.jobs ≡ jobs) views

  abbrev pub IsQueue : List (NumberedJob J P) → List (Known J) → Type 0
  IsQueue items views = IsBoard MOST_WORKERS items views

  -- the job was added at the end
  abbrev pub Pushed : Known J → NumberedJob J P → Known J → Type 0
  Pushed v item w = w ≡ known (v.jobs ++ item.job ∷ []) v.lists

  -- the pass took the item, which is the job of its number; there were jobs that its lists did not have
  abbrev pub Popped : Known J → NumberedJob J P → Known J → Type 0
  Popped v item w = (w ≡ gained v (item.number ∷ [])) × (get_elem? v.jobs item.number ≡ some item.job) × (length (numbers_of v.lists) < length v.jobs)
