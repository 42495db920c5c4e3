-- The board of a call: which jobs wait, which are held, and which were handed in. A job is represented by its number.
use Rattle.std.specs.Prelude.{◌≡◌, ℕ, suc, ◌+◌, ◌<◌, List, [], ◌∷◌, ◌++◌, length, get_or, set, replicate, Option, None, Some}
use Rattle.bt_value.specs.Lists.{concatenation}
use Rattle.bt_gang.specs.Numbers.{occurrences, once_below}

pub record State : Type 0 where
  -- how many jobs were put; this is also the number of the next job
  pub put : ℕ
  -- the jobs that wait, in order
  pub waiting : List ℕ
  -- for each worker the job that it holds, at most one
  pub held : List (Option ℕ)
  -- for each worker the jobs that it took, in order
  pub taken : List (List ℕ)
  -- the jobs that were handed in, in order
  pub handed : List ℕ

abbrev pub state : ℕ → List ℕ → List (Option ℕ) → List (List ℕ) → List ℕ → State
state put waiting held taken handed = record { put = put; waiting = waiting; held = held; taken = taken; handed = handed }

-- nothing was put, taken or handed in
abbrev pub start : ℕ → State
start workers = state 0 [] (replicate workers None) (replicate workers []) []

abbrev pub held_job : ℕ → State → Option ℕ
held_job worker s = get_or s.held worker None

abbrev pub taken_by : ℕ → State → List ℕ
taken_by worker s = get_or s.taken worker []

-- the next number was added at the end
abbrev pub after_put : State → State
after_put s = state (suc s.put) (s.waiting ++ s.put ∷ []) s.held s.taken s.handed

-- the first job that waits was given to the worker, and to its list; the rest waits
abbrev pub after_take : ℕ → ℕ → List ℕ → State → State
after_take worker front rest s = state s.put rest (set s.held worker (Some front)) (set s.taken worker (taken_by worker s ++ front ∷ [])) s.handed

-- the job that the worker held was handed in
abbrev pub after_hand : ℕ → ℕ → State → State
after_hand worker job s = state s.put s.waiting (set s.held worker None) s.taken (s.handed ++ job ∷ [])

pub data Event : Type 0 where
  Put : Event
  Take : ℕ → Event
  Hand : ℕ → Event

-- the event is possible in the first state, and leads to the second state
abbrev pub Leads : Event → State → State → Type 0
Leads Put s t = t ≡ after_put s
Leads (Take worker) s t = (front : ℕ) × (rest : List ℕ) × (worker < length s.held) × (held_job worker s ≡ None) × (s.waiting ≡ front ∷ rest) × (t ≡ after_take worker front rest s)
Leads (Hand worker) s t = (job : ℕ) × (worker < length s.held) × (held_job worker s ≡ Some job) × (t ≡ after_hand worker job s)

-- a run: a list of events, with the last event first, each possible in the state that the ones before it lead to
abbrev pub IsRun : List Event → State → State → Type 0
IsRun [] s t = t ≡ s
IsRun (event ∷ before) s t = (m : State) × IsRun before s m × Leads event m t

-- a run of this many workers leads to this state
abbrev pub IsReached : ℕ → State → Type 0
IsReached workers s = (events : List Event) × IsRun events (start workers) s

-- the jobs that are held
abbrev pub holding : List (Option ℕ) → List ℕ
holding [] = []
holding (None ∷ rest) = holding rest
holding (Some job ∷ rest) = job ∷ holding rest

-- each job that was put is waiting, held or handed in, exactly once; the jobs that the workers took are those held and those handed in, each once
abbrev pub IsAccounted : State → Type 0
IsAccounted s =
    (job : ℕ)
    → (occurrences job s.waiting + occurrences job (holding s.held) + occurrences job s.handed ≡ once_below job s.put)
    × (occurrences job (concatenation s.taken) ≡ occurrences job (holding s.held) + occurrences job s.handed)

-- a board with room for this many jobs
pub record Roomy : Type 0 where
  pub jobs : ℕ
  pub state : State
