-- What a worker has before and after its loop.
use Rattle.std.specs.Prelude.{◌≡◌, ℕ, suc, ◌+◌, ◌<◌, List, [], ◌∷◌, ◌++◌, length, map, drop, nat_eq, if◌then◌else◌, Option, Some, None, IfSome, Result, ⊤}
use Rattle.std.specs.declared.thread.PromisedHandle.{PromisedHandle}
use Rattle.crossbeam_queue.specs.Passes.{view, IsPassOf}
use Rattle.bt_gang.specs.declared.answers.Answers.{Answers}
use Rattle.bt_gang.specs.declared.jobs.Jobs.{Jobs}
use Rattle.bt_gang.specs.declared.workers.Worker.{Worker}
use Rattle.bt_gang.specs.declared.workers.GivesBack.{GivesBack}
use Rattle.bt_gang.specs.declared.rule.Known.{Known}
use Rattle.bt_gang.specs.declared.rule.TakenList.{TakenList}
use Rattle.bt_gang.specs.Numbers.{below}
use Rattle.bt_gang.specs.declared.crew.TheConstants.{MOST_WORKERS}
use Rattle.bt_gang.specs.Queue.{known, taken_list}
use Rattle.bt_gang.specs.Numbered.{numbered, present}
use Rattle.bt_gang.specs.Answers.{AllMay}

abbrev pub TakenLists : Type 0
TakenLists = List TakenList

-- the numbers in the list of this worker; none if there is no such list
abbrev pub own_list : ℕ → TakenLists → List ℕ
own_list worker [] = []
own_list worker (l ∷ ls) = if nat_eq l.worker worker then l.numbers else own_list worker ls

-- P holds for each item and its number, counted from the number of the first
abbrev pub AllByNumber : {X : Type 0} → (ℕ → X → Type 0) → ℕ → List X → Type 0
AllByNumber P first [] = ⊤
AllByNumber P first (x ∷ xs) = P first x × AllByNumber P (suc first) xs

-- the empty lists of the workers from this number on
abbrev pub lists_left : ℕ → ℕ → TakenLists
lists_left workers first = map (λ worker. taken_list worker []) (drop first (below workers))

module _ {D F : Type 0} where
  -- the lists of the workers whose answers came back, counted from the number of the first worker
  abbrev pub lists_back : ℕ → List (Option (Answers D F)) → TakenLists
  lists_back first [] = []
  lists_back first (None ∷ outs) = lists_back (suc first) outs
  lists_back first (Some out ∷ outs) = taken_list first (numbered (present out.list)) ∷ lists_back (suc first) outs

module _ {J D F : Type 0} where
  -- the worker with this number: its pass took nothing, and there is room for each job's answer; `others` are the other lists of the pass
  pub record IsReady (jobs : Jobs J D F) (all : List J) (others : TakenLists) (number : ℕ) (worker : Worker J D F) : Type 0 where
    pub is : worker.number ≡ number
    pub pass : IsPassOf jobs.queue worker.pass
    pub knows : view worker.pass ≡ known all (taken_list number [] ∷ others)
    pub list : present worker.out.list ≡ []
    pub spare : worker.out.spare ≡ length all

  -- the worker with this number: the numbers that its pass took are those of its answers, in order, and each answer is one that its job may give
  pub record HasServed (allows : J → Result D F → Type 0) (jobs : Jobs J D F) (all : List J) (others : TakenLists) (number : ℕ) (worker : Worker J D F) : Type 0 where
    pub is : worker.number ≡ number
    pub pass : IsPassOf jobs.queue worker.pass
    pub knows : view worker.pass ≡ known all (taken_list number (numbered (present worker.out.list)) ∷ others)
    pub may : AllMay allows all (present worker.out.list)

  -- what the worker with this number gave back, if it was started
  abbrev pub HasServedIfStarted : (J → Result D F → Type 0) → Jobs J D F → List J → ℕ → Option (Worker J D F) → Type 0
  HasServedIfStarted allows jobs all number back = IfSome back (HasServed allows jobs all [] number)

  -- the answers of a worker; none if it was not started
  abbrev pub out_of : Option (Worker J D F) → Option (Answers D F)
  out_of None = None
  out_of (Some worker) = Some worker.out

-- the promise is about this work, these jobs and the worker with this number
pub record IsPromise {W J D F : Type 0} (work : W) (jobs : Jobs J D F) (all : List J) (number : ℕ) (promise : GivesBack W J D F) : Type 0 where
  pub work_is : promise.work.value ≡ work
  pub jobs_is : promise.jobs.value ≡ jobs
  pub all_is : promise.all.value.value.items ≡ all
  pub number_is : promise.number ≡ number

-- the thread of the worker with this number, if it was started
abbrev pub IsChild : {W J D F : Type 0} → W → Jobs J D F → List J → ℕ → Option (PromisedHandle (Worker J D F) (GivesBack W J D F)) → Type 0
IsChild work jobs all number child = IfSome child (λ h. IsPromise work jobs all number h.promise)

module _ {J : Type 0} where
  -- what the caller's pass knows after this many passes were split off: its own list, and those of the workers that have no pass
  pub record IsCaller (all : List J) (given_away : ℕ) (v : Known J) : Type 0 where
    pub knows : v ≡ known all (taken_list 0 [] ∷ lists_left MOST_WORKERS (suc given_away))
    pub few : given_away < MOST_WORKERS

  -- the pass took in the lists of the workers whose answers came back, counted from this number, after those that it had
  abbrev pub TookInFrom : {D F : Type 0} → ℕ → Known J → Known J → List (Option (Answers D F)) → Type 0
  TookInFrom first before after outs = after ≡ known before.jobs (before.lists ++ lists_back first outs)

  -- the same for all workers but the caller
  abbrev pub TookIn : {D F : Type 0} → Known J → Known J → List (Option (Answers D F)) → Type 0
  TookIn before after outs = TookInFrom 1 before after outs

module _ {J D F : Type 0} where
  -- the caller before its loop, after this many passes were split off
  pub record IsReadyCaller (jobs : Jobs J D F) (all : List J) (given_away : ℕ) (mine : Worker J D F) : Type 0 where
    pub ready : IsReady jobs all (lists_left MOST_WORKERS (suc given_away)) 0 mine
    pub few : given_away < MOST_WORKERS

  -- the caller after its loop: there is room for the missing answers
  pub record HasServedCaller (allows : J → Result D F → Type 0) (jobs : Jobs J D F) (all : List J) (given_away : ℕ) (mine : Worker J D F) : Type 0 where
    pub served : HasServed allows jobs all (lists_left MOST_WORKERS (suc given_away)) 0 mine
    pub few : given_away < MOST_WORKERS
    pub spare : mine.out.spare + length (present mine.out.list) ≡ length all
