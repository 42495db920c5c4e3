-- The caller and the other workers of a run, before their loops, after them, and with their answers.
use Rattle.std.specs.Prelude.{◌≡◌, ℕ, suc, ◌<◌, ◌≤◌, List, [], ◌∷◌, ◌++◌, length, map, get_or, vec_len, vec_capacity, Option, None, Result}
use mathlib.Core.Option.{some}
use lib.ListN.{get_elem?}
use Rattle.bt_gang.specs.declared.answers.Answer.{Answer}
use Rattle.bt_gang.specs.declared.answers.Answers.{Answers}
use Rattle.bt_gang.specs.declared.crew.TheConstants.{MOST_WORKERS}
use Rattle.bt_gang.specs.declared.jobs.Jobs.{Jobs}
use Rattle.bt_gang.specs.declared.rule.Known.{Known}
use Rattle.bt_gang.specs.declared.team.Served.{Served}
use Rattle.bt_gang.specs.declared.team.Team.{Team}
use Rattle.bt_gang.specs.Answers.{AllMay, FoundNothing}
use Rattle.bt_gang.specs.Numbered.{numbered}
use Rattle.bt_value.specs.Lists.{concatenation}
use Rattle.bt_gang.specs.Queue.{NothingWaits, known, taken_list}
use Rattle.bt_gang.specs.inside.Places.{answers_in}
use Rattle.bt_gang.specs.inside.Workers.{AllByNumber, HasServedCaller, HasServedIfStarted, IsReady, IsReadyCaller, own_list, lists_back, lists_left}

-- the workers before their loops, with room for the threads of the others and for what they give back
pub record AreReady {W J D F : Type 0} (jobs : Jobs J D F) (all : List J) (team : Team W J D F) : Type 0 where
  pub mine : IsReadyCaller jobs all (vec_len team.workers) team.mine
  pub workers : AllByNumber (IsReady jobs all []) 1 team.workers.items
  pub children : (team.children.items ≡ []) × (vec_len team.workers ≤ vec_capacity team.children)
  pub back : (team.back.items ≡ []) × (vec_len team.workers ≤ vec_capacity team.back)

module _ {J D F : Type 0} (allows : J → Result D F → Type 0) where
  -- the workers after their loops, after this many passes were split off
  pub record HaveServed (jobs : Jobs J D F) (all : List J) (given_away : ℕ) (served : Served J D F) : Type 0 where
    pub mine : HasServedCaller allows jobs all given_away served.mine
    pub others : AllByNumber (HasServedIfStarted allows jobs all) 1 served.others.items
    pub len : vec_len served.others ≡ given_away

  -- what the caller's pass knows after its last pop found nothing, with the answers of the caller and those of the others
  pub record HaveCome (all : List J) (v : Known J) (own : List (Answer D F)) (outs : List (Option (Answers D F))) : Type 0 where
    pub knows : v ≡ known all (taken_list 0 (numbered own) ∷ (lists_left MOST_WORKERS (suc (length outs)) ++ lists_back 1 outs))
    pub few : length outs < MOST_WORKERS
    pub may : AllMay allows all (own ++ concatenation (map answers_in outs))
    pub settled : NothingWaits v
    pub last : FoundNothing v

-- the list at the number of each worker is its list in the pass, or empty if the pass has none
abbrev pub AreListsOf : {J : Type 0} → Known J → List (List ℕ) → Type 0
AreListsOf v lists = (worker : ℕ) → get_or lists worker [] ≡ own_list worker v.lists

-- a worker that is absent has an empty list; the list of the caller comes before those of the workers
abbrev pub AreEmptyWhereAbsent : {X : Type 0} → List (Option X) → List (List ℕ) → Type 0
AreEmptyWhereAbsent workers lists = (place : ℕ) → get_elem? workers place ≡ some None → get_or lists (suc place) [] ≡ []
