-- What the passes of the caller and of the workers know.
use Rattle.std.proofs.Common.{◌≡◌, ℕ, suc, ◌+◌, ◌<◌, ◌≤◌, List, [], ◌∷◌, ◌++◌, length, length-append, Option, Some, None, Result, sym, refl, ap, ◌∙◌, subst, append_assoc, append-nil, arith}
use Rattle.crossbeam_queue.specs.Passes.{view, IsPassOf}
use Rattle.bt_gang.specs.declared.answers.Answers.{Answers}
use Rattle.bt_gang.specs.declared.jobs.Jobs.{Jobs}
use Rattle.bt_gang.specs.declared.rule.Known.{Known}
use Rattle.bt_gang.specs.declared.rule.TakenList.{TakenList}
use Rattle.bt_gang.specs.declared.workers.GivesBack.{GivesBack}
use Rattle.bt_gang.specs.declared.workers.Worker.{Worker}
use Rattle.bt_gang.specs.declared.crew.TheConstants.{MOST_WORKERS}
use Rattle.bt_gang.specs.Queue.{taken_list, no_lists, list_given, lists_kept, numbers_of, known, gained, HasList}
use Rattle.bt_gang.specs.Numbered.{numbered, present}
use Rattle.bt_gang.specs.Answers.{AllMay, Gains}
use Rattle.bt_gang.specs.inside.Workers.{TakenLists, AllByNumber, IsReady, IsReadyCaller, HasServed, HasServedCaller, IsCaller, IsPromise, TookIn, TookInFrom, lists_back, lists_left}
use Rattle.bt_gang.proofs.WorkerLists.{back_more, left_more}

module _ {X : Type 0} (P : ℕ → X → Type 0) where
  from_snoc : (first next : ℕ) (xs : List X) (x : X) → AllByNumber P first xs → next ≡ first + length xs → P next x → AllByNumber P first (xs ++ x ∷ [])
  from_snoc first next [] x all e p = let k : next ≡ first = omega arith in (subst (λ n. P n x) k p, tt)
  from_snoc first next (y ∷ ys) x all e p = (all.0, from_snoc (suc first) next ys x all.1 (omega arith) p)

  pub from_more : (first next : ℕ) (xs ys : List X) (x : X) → ys ≡ xs ++ x ∷ [] → next ≡ first + length xs → AllByNumber P first xs → P next x → AllByNumber P first ys
  from_more first next xs ys x e n all p = subst (AllByNumber P first) (sym e) (from_snoc first next xs x all n p)

  pub from_next : (first next : ℕ) (xs ys : List X) (x : X) → xs ≡ x ∷ ys → next ≡ suc first → AllByNumber P first xs → P first x × AllByNumber P next ys
  from_next first next xs ys x e n all = let both = subst (AllByNumber P first) e all in (both.0, subst (λ k. AllByNumber P k ys) (sym n) both.1)

  pub from_same : (first next : ℕ) (xs ys : List X) → ys ≡ xs → next ≡ first → AllByNumber P first xs → AllByNumber P next ys
  from_same first next xs ys e n all = subst (λ k. AllByNumber P k ys) (sym n) (subst (AllByNumber P first) (sym e) all)

  pub from_none : (first : ℕ) (xs : List X) → xs ≡ [] → AllByNumber P first xs
  from_none first xs e = subst (AllByNumber P first) (sym e) tt

module _ {J : Type 0} where
  pub caller_first : (all : List J) (v : Known J) → v ≡ known all (no_lists MOST_WORKERS) → IsCaller all 0 v
  caller_first all v e = record { knows = e ∙ ap (known all) (left_more MOST_WORKERS 0 (omega arith)); few = omega arith }

  -- one more pass was split off: it has the list of the next worker
  pub caller_next : (all : List J) (k m : ℕ) (v w u : Known J) → IsCaller all k v → suc k < MOST_WORKERS → m ≡ k + 1
      → w ≡ known v.jobs (lists_kept v.lists) → u ≡ known v.jobs (list_given v.lists) → IsCaller all m w × (u ≡ known all (taken_list m [] ∷ []))
  caller_next all k m v w u c l n f g =
      let next : m ≡ suc k = omega arith in
      let was : v ≡ known all (taken_list 0 [] ∷ taken_list (suc k) [] ∷ lists_left MOST_WORKERS (suc (suc k))) =
      c.knows ∙ ap (λ ls. known all (taken_list 0 [] ∷ ls)) (left_more MOST_WORKERS (suc k) l) in (
        record {
          knows = f ∙ (ap (λ (y : Known J). known y.jobs (lists_kept y.lists)) was ∙ ap (λ i. known all (taken_list 0 [] ∷ lists_left MOST_WORKERS (suc i))) (sym next));
          few = omega arith;
        },
        g ∙ (ap (λ (y : Known J). known y.jobs (list_given y.lists)) was ∙ ap (λ i. known all (taken_list i [] ∷ [])) (sym next)),
      )

  pub one_list : (all : List J) (v : Known J) (l : TakenList) (others : TakenLists) → v ≡ known all (l ∷ others) → HasList v
  one_list all v l others e = let l = ap (λ (y : Known J). length y.lists) e in omega arith

module _ {J D F : Type 0} where
  pub took_nothing : (v : Known J) (outs : List (Option (Answers D F))) → outs ≡ [] → TookIn v v outs
  took_nothing v outs none = subst (TookIn v v) (sym none) (sym (λ i. known v.jobs (append-nil v.lists i)))

  pub took_list : (before v : Known J) (outs : List (Option (Answers D F))) → TookIn before v outs → HasList before → HasList v
  took_list before v outs t some_list = let k = ap (λ (y : Known J). length y.lists) t in let l = length-append before.lists (lists_back 1 outs) in omega arith

  -- one more worker came back, or was not started
  pub took_more : (before v w : Known J) (outs more : List (Option (Answers D F))) (out : Option (Answers D F)) (number : ℕ)
      → more ≡ outs ++ out ∷ [] → number ≡ 1 + length outs → TookIn before v outs → TookInFrom number v w (out ∷ []) → TookIn before w more
  took_more before v w outs more out number e n t one =
      let lists = lists_back number (out ∷ []) in
      one ∙ ((λ i. known (t i).jobs ((t i).lists ++ lists)) ∙ ap (known before.jobs) (append_assoc before.lists (lists_back 1 outs) lists)
      ∙ ap (λ ls. known before.jobs (before.lists ++ ls)) (sym (ap (lists_back 1) e ∙ back_more 1 number outs out n)))

module _ {J D F : Type 0} (allows : J → Result D F → Type 0) where
  -- a worker that had taken nothing has exactly the answers that were added
  pub served : (jobs : Jobs J D F) (all : List J) (others : TakenLists) (number : ℕ) (old new : Worker J D F) → IsReady jobs all others number old
      → new.number ≡ old.number → IsPassOf jobs.queue new.pass
      → Gains allows (view old.pass) (view new.pass) old.out new.out → HasServed allows jobs all others number new
  served jobs all others number old new r same p g =
      let added : present new.out.list ≡ g.added = g.list ∙ ap (λ l. l ++ g.added) r.list in
      record {
        is = same ∙ r.is;
        pass = p;
        knows = g.pass ∙ (ap (λ y. gained y (numbered g.added)) r.knows ∙ (λ i. known all (taken_list number (numbered (sym added i)) ∷ others)));
        may = subst (AllMay allows all) (sym added) (subst (λ js. AllMay allows js g.added) (ap (λ (y : Known J). y.jobs) r.knows) g.may);
      }

  pub ready_spare : (jobs : Jobs J D F) (all : List J) (others : TakenLists) (number : ℕ) (w : Worker J D F) → IsReady jobs all others number w
      → length (view w.pass).jobs ≤ w.out.spare + length (numbers_of (view w.pass).lists)
  ready_spare jobs all others number w r = let l = ap (λ (y : Known J). length y.jobs) r.knows in let s = r.spare in omega arith

  -- the caller has exactly the answers that were added
  pub served_caller : (jobs : Jobs J D F) (all : List J) (k : ℕ) (old new : Worker J D F) → IsReadyCaller jobs all k old → new.number ≡ old.number → IsPassOf jobs.queue new.pass
      → Gains allows (view old.pass) (view new.pass) old.out new.out → HasServedCaller allows jobs all k new
  served_caller jobs all k old new r same p g = record {
    served = served jobs all (lists_left MOST_WORKERS (suc k)) 0 old new r.ready same p g;
    few = r.few;
    spare = let l = ap length g.list in let m = length-append (present old.out.list) g.added in let n = ap length r.ready.list in let s = g.spare in let t = r.ready.spare in omega arith;
  }

module _ {W J D F : Type 0} (allows_of : W → J → Result D F → Type 0) where
  -- what a promise about this work, these jobs and this worker says
  pub promised : (work : W) (jobs : Jobs J D F) (all : List J) (number : ℕ) (p : GivesBack W J D F) (w : Worker J D F)
      → IsPromise work jobs all number p → HasServed (allows_of p.work.value) p.jobs.value p.all.value.value.items [] p.number w → HasServed (allows_of work) jobs all [] number w
  promised work jobs all number p w is h =
      subst (λ a. HasServed (allows_of a) jobs all [] number w) is.work_is
      (subst (λ j. HasServed (allows_of p.work.value) j all [] number w) is.jobs_is
      (subst (λ l. HasServed (allows_of p.work.value) p.jobs.value l [] number w) is.all_is
      (subst (λ n. HasServed (allows_of p.work.value) p.jobs.value p.all.value.value.items [] n w) is.number_is h)))
