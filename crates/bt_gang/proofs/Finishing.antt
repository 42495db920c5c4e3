-- The answers of all workers, after all passes of started workers came back.
use Rattle.std.proofs.Common.{◌≡◌, ℕ, suc, ◌+◌, ◌<◌, ◌≤◌, List, [], ◌∷◌, ◌++◌, All, length, length-append, map, get_or}
use Rattle.std.proofs.Common.{replicate, Option, None, IsSome, Result, sym, ap, ◌∙◌, subst, refl, arith}
use Rattle.std.proofs.lemmas.List.{length-map, length-replicate}
use Rattle.crossbeam_queue.specs.Passes.{view}
use Rattle.bt_gang.specs.declared.answers.Answer.{Answer}
use Rattle.bt_gang.specs.declared.answers.Answers.{Answers}
use Rattle.bt_gang.specs.declared.jobs.Jobs.{Jobs}
use Rattle.bt_gang.specs.declared.rule.Known.{Known}
use Rattle.bt_gang.specs.declared.job_runs.GangFault.{GangFault}
use Rattle.bt_gang.specs.declared.job_runs.GangFault.TheVariants.{OutOfMemory}
use Rattle.bt_gang.specs.declared.team.Served.{Served}
use Rattle.bt_gang.specs.declared.workers.Worker.{Worker}
use Rattle.bt_value.specs.Lists.{concatenation}
use Rattle.bt_gang.specs.Numbers.{occurrences, below, once_below}
use Rattle.bt_gang.specs.Numbered.{numbered, present}
use Rattle.bt_gang.specs.declared.crew.TheConstants.{MOST_WORKERS}
use Rattle.bt_gang.specs.Queue.{NothingWaits, gained, known, numbers_of, taken_list}
use Rattle.bt_gang.specs.Answers.{AllMay, FoundNothing, Gains}
use Rattle.bt_gang.specs.Run.{AreAllTaken, EachOnce}
use Rattle.bt_gang.specs.inside.Places.{AllBelow, Filled, IsFaultAmong, IsFull, answers_in, numbers_in, puts}
use Rattle.bt_gang.specs.inside.Teams.{AreEmptyWhereAbsent, AreListsOf, HaveCome, HaveServed}
use Rattle.bt_gang.specs.inside.Workers.{HasServedCaller, TookIn, lists_back, lists_left, out_of}
use Rattle.bt_gang.proofs.Numbers.{length-below, same_sums, occurrences-below, sum_over-length}
use Rattle.bt_gang.proofs.Serving.{may-append, numbered-append}
use Rattle.bt_gang.proofs.WorkerLists.{all_back, all_lists, length-left, lists_stand, no_numbers_back, numbers-append, numbers-back, numbers-left}
use Rattle.bt_gang.proofs.Filling.{all_once, below-back, below-front, below_all, filled, length-puts, lists-more, may_back, none_empty, numbers_joined, puts-append}

module _ {J D F : Type 0} (allows : J → Result D F → Type 0) where
  -- the caller served, and then took in the lists of the workers that came back
  module _ {jobs : Jobs J D F} {all : List J} {k : ℕ} {mine : Worker J D F} (outs : List (Option (Answers D F))) {w : Known J}
      (h : HasServedCaller allows jobs all k mine) (t : TookIn (view mine.pass) w outs) where
    took_all : w ≡ known all (taken_list 0 (numbered (present mine.out.list)) ∷ (lists_left MOST_WORKERS (suc k) ++ lists_back 1 outs))
    took_all = t ∙ ap (λ (y : Known J). known y.jobs (y.lists ++ lists_back 1 outs)) h.served.knows

    pub jobs_last : w.jobs ≡ all
    jobs_last = ap (λ (y : Known J). y.jobs) took_all

    pub room_last : length w.jobs ≤ mine.out.spare + length (numbers_of w.lists)
    room_last =
        let e = took_all in
        let own = numbered (present mine.out.list) in
        let others = lists_left MOST_WORKERS (suc k) ++ lists_back 1 outs in
        let j : length w.jobs ≡ length all = ap (λ (y : Known J). length y.jobs) e in
        let n : length (numbers_of w.lists) ≡ length (own ++ numbers_of others) = ap (λ (y : Known J). length (numbers_of y.lists)) e in
        let l = length-append own (numbers_of others) in
        let m = length-map (present mine.out.list) (λ (a : Answer D F). a.number) in
        let s = h.spare in
        omega arith

  -- the caller took in what the workers gave back, and then served until it found nothing
  pub record HasFinished (k : ℕ) (served : Served J D F) (outs : List (Option (Answers D F))) (w v : Known J) (out : Answers D F) : Type 0 where
    pub count : k ≡ length served.others.items
    pub back : outs ≡ map out_of served.others.items
    pub took : TookIn (view served.mine.pass) w outs
    pub gains : Gains allows w v served.mine.out out
    pub last : FoundNothing v
    pub settled : NothingWaits v

  pub have_come : {jobs : Jobs J D F} {all : List J} {k : ℕ} {served : Served J D F} {outs : List (Option (Answers D F))} {w v : Known J} {out : Answers D F}
      → HaveServed allows jobs all k served → HasFinished k served outs w v out → HaveCome allows all v (present out.list) outs
  have_come {jobs} {all} {k} {served} {outs} {w} {v} {out} h finished =
      let mine = served.mine in
      let own = present mine.out.list in
      let g = finished.gains in
      let here : numbered (present out.list) ≡ numbered own ++ numbered g.added = ap numbered g.list ∙ numbered-append own g.added in
      let added : AllMay allows all g.added = subst (λ js. AllMay allows js g.added) (jobs_last outs h.mine finished.took) g.may in
      let back : AllMay allows all (concatenation (map answers_in outs)) =
      subst (λ os. AllMay allows all (concatenation (map answers_in os))) (sym finished.back) (may_back allows jobs all 1 served.others.items h.others) in
      let count : k ≡ length outs = finished.count ∙ sym (ap length finished.back ∙ length-map served.others.items (λ (o : Option (Worker J D F)). out_of o)) in
      record {
        knows = g.pass ∙ (ap (λ y. gained y (numbered g.added)) (took_all outs h.mine finished.took)
            ∙ (ap (λ ns. known all (taken_list 0 ns ∷ (lists_left MOST_WORKERS (suc k) ++ lists_back 1 outs))) (sym here)
            ∙ ap (λ n. known all (taken_list 0 (numbered (present out.list)) ∷ (lists_left MOST_WORKERS (suc n) ++ lists_back 1 outs))) count));
        few = subst (λ n. n < MOST_WORKERS) count h.mine.few;
        may = may-append allows all (present out.list) (concatenation (map answers_in outs)) (subst (AllMay allows all) (sym g.list) (may-append allows all own g.added h.mine.served.may added)) back;
        settled = finished.settled;
        last = finished.last;
      }

-- in places that were empty, the caller's answers come first, and then those of the others
module _ {J D F : Type 0} (allows : J → Result D F → Type 0) (all : List J) (own rest : List (Answer D F)) (may : AllMay allows all (own ++ rest)) (empty
    : List (Option (Result D F))) (none : empty ≡ replicate (length all) None) where
  all_below : (slots : List (Option (Result D F))) → length slots ≡ length empty → AllBelow (length slots) (own ++ rest)
  all_below slots e = below_all allows all (length slots) (own ++ rest) (e ∙ (ap length none ∙ length-replicate (length all) None)) may

  pub below_own : AllBelow (length empty) own
  below_own = below-front (length empty) own rest (all_below empty refl)

  module _ (mid : List (Option (Result D F))) (placed : mid ≡ puts empty own) where
    pub below_rest : AllBelow (length mid) rest
    below_rest = below-back (length mid) own rest (all_below mid (ap length placed ∙ length-puts empty own))

    pub filled_all : (slots : List (Option (Result D F))) → slots ≡ puts mid rest → Filled allows all slots (numbered (own ++ rest))
    filled_all slots e =
        filled allows all (own ++ rest) slots (e ∙ (ap (λ s. puts s rest) (placed ∙ ap (λ s. puts s own) none) ∙ sym (puts-append (replicate (length all) None) own rest))) may

module _ {J D F : Type 0} (allows : J → Result D F → Type 0) (all : List J) (v : Known J) (own : List (Answer D F)) (outs : List (Option (Answers D F))) (come : HaveCome allows all v own outs) where
  -- the numbers of the answers are those in the lists of the pass
  numbers_come : numbered (own ++ concatenation (map answers_in outs)) ≡ numbers_of v.lists
  numbers_come =
      let left = lists_left MOST_WORKERS (suc (length outs)) in
      let back = lists_back 1 outs in
      let lists : numbers_of (left ++ back) ≡ concatenation (map numbers_in outs) = numbers-append left back ∙ ((λ i. numbers-left MOST_WORKERS (suc (length outs)) i ++ numbers-back 1 outs i)) in
      numbered-append own (concatenation (map answers_in outs)) ∙ ((λ i. numbered own ++ (numbers_joined outs ∙ sym lists) i) ∙ sym (ap (λ (y : Known J). numbers_of y.lists) come.knows))

  jobs_come : length v.jobs ≡ length all
  jobs_come = ap (λ (y : Known J). length y.jobs) come.knows

  pub most_come : (x : ℕ) → occurrences x (numbered (own ++ concatenation (map answers_in outs))) ≤ once_below x (length all)
  most_come x = let a = (come.last x).0 in let b = ap (occurrences x) numbers_come in let c = ap (once_below x) jobs_come in omega arith

  -- if each worker came back, so did each number
  each_come : All IsSome outs → (x : ℕ) → occurrences x (numbered (own ++ concatenation (map answers_in outs))) ≡ once_below x (length all)
  each_come some x =
      let full : length v.lists ≡ MOST_WORKERS =
      (let l = ap (λ (y : Known J). length y.lists) come.knows in
      let a = length-append (lists_left MOST_WORKERS (suc (length outs))) (lists_back 1 outs) in
      let b = length-left MOST_WORKERS (suc (length outs)) come.few in
      let c = all_back 1 outs some in
      omega arith) in
      ap (occurrences x) numbers_come ∙ ((come.last x).1 full ∙ ap (once_below x) jobs_come)

  -- a place is empty only if a worker did not come back
  pub memory_wanted : (slots : List (Option (Result D F))) (fault : GangFault F) → Filled allows all slots (numbered (own ++ concatenation (map answers_in outs)))
      → IsFaultAmong slots fault → fault ≡ OutOfMemory → ¬ (All IsSome outs)
  memory_wanted slots fault f among wanted some =
      let empty = subst (IsFaultAmong slots) wanted among in
      none_empty allows all slots (numbered (own ++ concatenation (map answers_in outs))) f (each_come some) empty.0 empty.1

  module _ (vs : List (List ℕ)) (lists : vs ≡ numbered own ∷ map numbers_in outs) where
    -- a worker that was not started has an empty list
    pub are_empty : AreEmptyWhereAbsent outs vs
    are_empty place absent = ap (λ ls. get_or ls (suc place) []) lists ∙ no_numbers_back outs place absent

    -- the lists of numbers are those of the pass
    pub are_lists : AreListsOf v vs
    are_lists = subst (AreListsOf v) (sym lists) (lists_stand MOST_WORKERS (length outs) v (numbered own) outs refl come.few (ap (λ (y : Known J). y.lists) come.knows))

    module _ (slots : List (Option (Result D F))) (f : Filled allows all slots (numbered (own ++ concatenation (map answers_in outs)))) (full : IsFull slots) where
      came_once : (x : ℕ) → occurrences x (numbered (own ++ concatenation (map answers_in outs))) ≡ once_below x (length all)
      came_once = all_once allows all slots (numbered (own ++ concatenation (map answers_in outs))) f full most_come

      pub once : EachOnce (length all) vs
      once x =
          ap (λ ls. occurrences x (concatenation ls)) lists
          ∙ (ap (occurrences x) ((λ i. numbered own ++ sym (numbers_joined outs) i) ∙ sym (numbered-append own (concatenation (map answers_in outs)))) ∙ came_once x)

      -- the board that the last pop shows
      pub all_taken : AreAllTaken (length all) vs
      all_taken =
          let one : ℕ → ℕ = λ _. 1 in
          let n = length all in
          let came = numbered (own ++ concatenation (map answers_in outs)) in
          let a = same_sums came (below n) (λ x. came_once x ∙ sym (occurrences-below x n)) one in
          let b = sum_over-length came in
          let d = sum_over-length (below n) in
          let e = length-below n in
          let g = ap length numbers_come in
          let m = jobs_come in
          let numbers : length (numbers_of v.lists) ≡ length v.jobs = omega arith in
          record {
            board = come.settled.board;
            reached = come.settled.reached;
            put = come.settled.put ∙ jobs_come;
            waiting = come.settled.waiting;
            taken = λ w. all_lists MOST_WORKERS v come.settled numbers w ∙ sym (are_lists w);
          }

module _ {D F : Type 0} where
  -- the caller's list, then those of the others
  pub lists_placed : (own : List (Answer D F)) (outs : List (Option (Answers D F))) (ws was vs : List (List ℕ)) (x : List ℕ)
      → was ≡ [] → vs ≡ was ++ x ∷ [] → x ≡ numbered own → ws ≡ vs ++ map numbers_in outs → ws ≡ numbered own ∷ map numbers_in outs
  lists_placed own outs ws was vs x none e f k = k ∙ ap (λ l. l ++ map numbers_in outs) (lists-more was vs x (numbered own) e f ∙ ap (λ l. l ++ numbered own ∷ []) none)
