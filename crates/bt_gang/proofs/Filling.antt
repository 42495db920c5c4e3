-- The guarantees of a run of all jobs follow from the answers that came in.
use Rattle.std.proofs.Common.{◌≡◌, ◌≢◌, ℕ, zero, suc, ◌+◌, ◌<◌, ◌≤◌, List, [], ◌∷◌, ◌++◌, length, set, map, get_or, replicate, Option}
use Rattle.std.proofs.Common.{Some, None, IfSome, Result, Ok, Err, sym, refl, ap, ◌∙◌, subst, ⊎_elim, append_assoc, append-nil, arith}
use Rattle.std.proofs.lemmas.List.{length-set, length-replicate, get_or-replicate, replicate_more}
use Rattle.std.proofs.lemmas.Bool.Decides.{nat_tests}
use mathlib.Core.Option.{some, some-ne-none, some-injective}
use lib.ListN.{get_elem?}
use Rattle.crossbeam_queue.proofs.Lists.{at_set}
use Rattle.bt_gang.specs.declared.answers.Answer.{Answer}
use Rattle.bt_gang.specs.declared.answers.Answers.{Answers}
use Rattle.bt_value.specs.Lists.{concatenation}
use Rattle.bt_gang.specs.Numbers.{is_it, occurrences, once_below}
use Rattle.bt_gang.specs.Numbered.{numbered, present}
use Rattle.bt_gang.specs.Answers.{MayAnswer, AllMay}
use Rattle.bt_gang.specs.inside.Places.{AllBelow, Filled, IsFaultAmong, IsFull, puts, ok_slots, answers_in, numbers_in}
use Rattle.bt_gang.specs.inside.Workers.{AllByNumber, HasServedIfStarted, out_of}
use Rattle.bt_gang.specs.declared.jobs.Jobs.{Jobs}
use Rattle.bt_gang.specs.declared.workers.Worker.{Worker}
use Rattle.bt_gang.specs.declared.job_runs.GangFault.{GangFault}
use Rattle.bt_gang.specs.declared.job_runs.GangFault.TheVariants.{OutOfMemory, Job}
use Rattle.bt_gang.specs.Board.{start}
use Rattle.bt_gang.specs.declared.crew.TheConstants.{MOST_WORKERS}
use Rattle.bt_gang.specs.Run.{Answered, AreAllTaken, AreValues, EachOnce, HasAnswers, IsLeast}
use Rattle.bt_gang.proofs.Numbers.{sum_over-append, occurrences-below, at_below}
use Rattle.bt_gang.proofs.Rules.{at_most_once, below_once, empty_list}
use Rattle.bt_gang.proofs.Serving.{numbered-append, may-append, read_at}

abbrev value_or : {A : Type 0} → A → Option A → A
value_or d (Some x) = x
value_or d None = d

abbrev HasValue : {A : Type 0} → Option A → Type 0
HasValue (Some x) = Unit
HasValue None = ⊥

none_more : (i n : ℕ) (came : List ℕ) → i ≢ n → occurrences i came ≡ 0 → occurrences i (came ++ n ∷ []) ≡ 0
none_more i n came ne e = let f = sum_over-append (is_it i) came (n ∷ []) in grind (arith, nat_tests, e, f)

one_more : (i n : ℕ) (came : List ℕ) → i ≡ n → 0 < occurrences i (came ++ n ∷ [])
one_more i n came e = let f = sum_over-append (is_it i) came (n ∷ []) in grind (arith, nat_tests, e, f)

still_there : (i n : ℕ) (came : List ℕ) → 0 < occurrences i came → 0 < occurrences i (came ++ n ∷ [])
still_there i n came l = let f = sum_over-append (is_it i) came (n ∷ []) in omega arith

-- a number that is in a list at most once, and at least once if it is below n
exactly_once : (x n k : ℕ) → k ≤ once_below x n → (x < n → 0 < k) → k ≡ once_below x n
exactly_once x n k l f = by (once_below x n) refl where
  by : (b : ℕ) → once_below x n ≡ b → k ≡ once_below x n
  by zero e = omega arith
  by (suc b) e = let p = f (below_once x n (omega arith)) in let m = at_most_once x n in omega arith

module _ {D F : Type 0} where
  pub puts-append : (slots : List (Option (Result D F))) (xs ys : List (Answer D F)) → puts slots (xs ++ ys) ≡ puts (puts slots xs) ys
  puts-append slots [] ys = refl
  puts-append slots (x ∷ xs) ys = puts-append (set slots x.number (Some x.value)) xs ys

  pub length-puts : (slots : List (Option (Result D F))) (xs : List (Answer D F)) → length (puts slots xs) ≡ length slots
  length-puts slots [] = refl
  length-puts slots (x ∷ xs) = length-puts (set slots x.number (Some x.value)) xs ∙ length-set slots x.number (Some x.value)

  pub below-front : (n : ℕ) (xs ys : List (Answer D F)) → AllBelow n (xs ++ ys) → AllBelow n xs
  below-front n [] ys all = tt
  below-front n (x ∷ xs) ys all = (all.0, below-front n xs ys all.1)

  pub below-back : (n : ℕ) (xs ys : List (Answer D F)) → AllBelow n (xs ++ ys) → AllBelow n ys
  below-back n [] ys all = all
  below-back n (x ∷ xs) ys all = below-back n xs ys all.1

  ok_there : (ds : List D) (i : ℕ) → ¬ (get_elem? (ok_slots {F = F} ds) i ≡ some None)
  ok_there [] i none = some-ne-none None (sym none)
  ok_there (d ∷ ds) zero none = subst HasValue (some-injective (Some (Ok d)) None none) tt
  ok_there (d ∷ ds) (suc i) none = ok_there ds i none

  -- if each place has a value, none is empty
  pub ok_full : (slots : List (Option (Result D F))) (ds : List D) → slots ≡ ok_slots ds → IsFull slots
  ok_full slots ds e i none = ok_there ds i (ap (λ l. get_elem? l i) (sym e) ∙ none)

  numbers_of_one : (o : Option (Answers D F)) → numbered (answers_in o) ≡ numbers_in o
  numbers_of_one None = refl
  numbers_of_one (Some a) = refl

  -- the numbers of the answers of all workers
  pub numbers_joined : (outs : List (Option (Answers D F))) → numbered (concatenation (map answers_in outs)) ≡ concatenation (map numbers_in outs)
  numbers_joined [] = refl
  numbers_joined (o ∷ os) = numbered-append (answers_in o) (concatenation (map answers_in os)) ∙ (λ i. numbers_of_one o i ++ numbers_joined os i)

module _ {J D F : Type 0} (allows : J → Result D F → Type 0) where
  pub below_all : (jobs : List J) (n : ℕ) (xs : List (Answer D F)) → n ≡ length jobs → AllMay allows jobs xs → AllBelow n xs
  below_all jobs n [] e all = tt
  below_all jobs n (x ∷ xs) e all = (let l = at_below jobs x.number all.0.0 all.0.1 in omega arith, below_all jobs n xs e all.1)

  -- each of the answers that came back is one that its job may give
  pub may_back : (jobs : Jobs J D F) (all : List J) (first : ℕ) (workers : List (Option (Worker J D F))) → AllByNumber (HasServedIfStarted allows jobs all) first workers
      → AllMay allows all (concatenation (map answers_in (map out_of workers)))
  may_back jobs all first [] served = tt
  may_back jobs all first (None ∷ ws) served = may_back jobs all (suc first) ws served.1
  may_back jobs all first (Some w ∷ ws) served = may-append allows all (present w.out.list) (concatenation (map answers_in (map out_of ws))) served.0.may (may_back jobs all (suc first) ws served.1)

  filled_put : (jobs : List J) (slots : List (Option (Result D F))) (came : List ℕ) (n : ℕ) (v : Result D F) → Filled allows jobs slots came
      → MayAnswer allows jobs n v → Filled allows jobs (set slots n (Some v)) (came ++ n ∷ [])
  filled_put jobs slots came n v f may = record {
    size = length-set slots n (Some v) ∙ f.size;
    may = λ i value e. ⊎_elim
        (λ (x : (i ≡ n) × (Some v ≡ Some value)). subst (λ k. MayAnswer allows jobs k value) (sym x.0) (subst (λ w. MayAnswer allows jobs n w) (ap (value_or v) x.1) may))
        (λ (x : (i ≢ n) × (get_elem? slots i ≡ some (Some value))). f.may i value x.1)
        (at_set slots n i (Some v) (Some value) e);
    full = λ i value e. ⊎_elim
        (λ (x : (i ≡ n) × (Some v ≡ Some value)). one_more i n came x.0)
        (λ (x : (i ≢ n) × (get_elem? slots i ≡ some (Some value))). still_there i n came (f.full i value x.1))
        (at_set slots n i (Some v) (Some value) e);
    empty = λ i e. ⊎_elim
        (λ (x : (i ≡ n) × (Some v ≡ None)). absurd (subst HasValue x.1 tt))
        (λ (x : (i ≢ n) × (get_elem? slots i ≡ some None)). none_more i n came x.0 (f.empty i x.1))
        (at_set slots n i (Some v) None e);
  }

  filled_more : (jobs : List J) (xs : List (Answer D F)) (slots : List (Option (Result D F))) (came : List ℕ) → Filled allows jobs slots came
      → AllMay allows jobs xs → Filled allows jobs (puts slots xs) (came ++ numbered xs)
  filled_more jobs [] slots came f all = subst (λ l. Filled allows jobs slots l) (sym (append-nil came)) f
  filled_more jobs (x ∷ xs) slots came f all =
      subst (λ l. Filled allows jobs (puts (set slots x.number (Some x.value)) xs) l) (append_assoc came (x.number ∷ []) (numbered xs))
      (filled_more jobs xs (set slots x.number (Some x.value)) (came ++ x.number ∷ []) (filled_put jobs slots came x.number x.value f all.0) all.1)

  empty_at : (n i : ℕ) (o : Option (Result D F)) → get_elem? (replicate n None) i ≡ some o → None ≡ o
  empty_at n i o e =
      let l = at_below (replicate n None) i o e in
      let k = length-replicate {A = Option (Result D F)} n None in
      sym (get_or-replicate n i None o (omega arith)) ∙ read_at (replicate n None) i o e

  filled_empty : (jobs : List J) → Filled allows jobs (replicate (length jobs) None) []
  filled_empty jobs = record {
    size = length-replicate (length jobs) None;
    may = λ i value x. absurd (subst HasValue (sym (empty_at (length jobs) i (Some value) x)) tt);
    full = λ i value x. absurd (subst HasValue (sym (empty_at (length jobs) i (Some value) x)) tt);
    empty = λ i x. refl;
  }

  -- the answers, put into empty places
  pub filled : (jobs : List J) (xs : List (Answer D F)) (slots : List (Option (Result D F))) → slots ≡ puts (replicate (length jobs) None) xs
      → AllMay allows jobs xs → Filled allows jobs slots (numbered xs)
  filled jobs xs slots e all = subst (λ l. Filled allows jobs l (numbered xs)) (sym e) (filled_more jobs xs (replicate (length jobs) None) [] (filled_empty jobs) all)

  ok_at : (ds : List D) (i : ℕ) (d : D) (rest : List (Option (Result D F))) → get_elem? ds i ≡ some d → get_elem? (ok_slots ds ++ rest) i ≡ some (Some (Ok d))
  ok_at [] i d rest e = absurd (some-ne-none d (sym e))
  ok_at (x ∷ xs) zero d rest e = ap (λ y. some (Some (Ok y))) (some-injective x d e)
  ok_at (x ∷ xs) (suc i) d rest e = ok_at xs i d rest e

  length-ok : (ds : List D) → length (ok_slots {F = F} ds) ≡ length ds
  length-ok [] = refl
  length-ok (d ∷ ds) = let e = length-ok ds in omega arith

  pub answered : (jobs : List J) (slots : List (Option (Result D F))) (came : List ℕ) (ds : List D) → Filled allows jobs slots came → slots ≡ ok_slots ds → Answered allows jobs ds
  answered jobs slots came ds f e = (
    sym (length-ok ds) ∙ (ap length (sym e) ∙ f.size),
    (λ i d x. f.may i (Ok d) (ap (λ l. get_elem? l i) (e ∙ sym (append-nil (ok_slots ds))) ∙ ok_at ds i d [] x)),
  )

  at_err : (ds : List D) (fault : F) (rest : List (Option (Result D F))) → get_elem? (ok_slots ds ++ Some (Err fault) ∷ rest) (length ds) ≡ some (Some (Err fault))
  at_err [] fault rest = refl
  at_err (d ∷ ds) fault rest = at_err ds fault rest

  -- the item at a place of a list
  pub some_at : {A : Type 0} (ds : List A) (i : ℕ) → i < length ds → (d : A) × (get_elem? ds i ≡ some d)
  some_at [] i l = absurd (omega arith)
  some_at (d ∷ ds) zero l = (d, refl)
  some_at (d ∷ ds) (suc i) l = some_at ds i (omega arith)

  -- if no place is empty, each has a value
  full_at : (slots : List (Option (Result D F))) (i : ℕ) → IsFull slots → i < length slots → (value : Result D F) × (get_elem? slots i ≡ some (Some value))
  full_at slots i full l = by (some_at slots i l).0 (some_at slots i l).1 where
    by : (o : Option (Result D F)) → get_elem? slots i ≡ some o → (value : Result D F) × (get_elem? slots i ≡ some (Some value))
    by None e = absurd (full i e)
    by (Some value) e = (value, e)

  pub has_answers : (jobs : List J) (slots : List (Option (Result D F))) (came : List ℕ) → Filled allows jobs slots came → IsFull slots → HasAnswers allows jobs
  has_answers jobs slots came f full i l = let v = full_at slots i full (let s = f.size in omega arith) in (v.0, f.may i v.0 v.1)

  pub lowest : (jobs : List J) (slots : List (Option (Result D F))) (came : List ℕ) (number : ℕ) (fault : F) (before : List D) (after : List (Option (Result D F)))
      → Filled allows jobs slots came → length before ≡ number → slots ≡ ok_slots before ++ Some (Err fault) ∷ after
      → MayAnswer allows jobs number (Err fault) × ((i : ℕ) → i < number → (d : D) × MayAnswer allows jobs i (Ok d))
  lowest jobs slots came number fault before after f n e = (
    f.may number (Err fault) (ap (λ l. get_elem? l number) e ∙ subst (λ k. get_elem? (ok_slots before ++ Some (Err fault) ∷ after) k ≡ some (Some (Err fault))) n (at_err before fault after)),
    (λ i l. let d = some_at before i (omega arith) in (d.0, f.may i (Ok d.0) (ap (λ k. get_elem? k i) e ∙ ok_at before i d.0 (Some (Err fault) ∷ after) d.1))),
  )

  -- if no place is empty and no number came twice, each came once
  pub all_once : (jobs : List J) (slots : List (Option (Result D F))) (came : List ℕ) → Filled allows jobs slots came → IsFull slots
      → ((x : ℕ) → occurrences x came ≤ once_below x (length jobs)) → (x : ℕ) → occurrences x came ≡ once_below x (length jobs)
  all_once jobs slots came f full most x = exactly_once x (length jobs) (occurrences x came) (most x) (λ l. let v = full_at slots x full (let s = f.size in omega arith) in f.full x v.0 v.1)

  -- if each number came once, no place is empty
  pub none_empty : (jobs : List J) (slots : List (Option (Result D F))) (came : List ℕ) → Filled allows jobs slots came → ((x : ℕ) → occurrences x came ≡ once_below x (length jobs)) → IsFull slots
  none_empty jobs slots came f once i e = let l = at_below slots i None e in let a = f.size in let b = f.empty i e in let c = once i in absurd (grind (arith, nat_tests, a, b, c, l))

module _ {J D F : Type 0} (allows : J → Result D F → Type 0) (value : J → D) (only : (job : J) (d : D) → allows job (Ok d) → d ≡ value job) where
  -- if each job may give only its value, the values are those of the jobs, in order
  pub values_are : (jobs : List J) (ds : List D) → Answered allows jobs ds → ds ≡ map value jobs
  values_are [] [] a = refl
  values_are [] (d ∷ ds) a = let l = a.0 in absurd (omega arith)
  values_are (j ∷ js) [] a = let l = a.0 in absurd (omega arith)
  values_are (j ∷ js) (d ∷ ds) a =
      let m = a.1 0 d refl in
      let head : d ≡ value j = only m.0 d m.2 ∙ ap value (sym (some-injective j m.0 m.1)) in
      let rest : ds ≡ map value js = values_are js ds ((let l = a.0 in omega arith), λ i x e. a.1 (suc i) x e) in
      (λ i. head i ∷ rest i)

pub lists-more : (vs ws : List (List ℕ)) (x ns : List ℕ) → ws ≡ vs ++ x ∷ [] → x ≡ ns → ws ≡ vs ++ ns ∷ []
lists-more vs ws x ns e f = e ∙ ap (λ l. vs ++ l ∷ []) f

module _ {D F : Type 0} where
  -- one more worker's answers were placed
  pub placed_more : (old new all : List (Option (Result D F))) (o : Option (Answers D F)) (left rest : List (Option (Answers D F)))
      → left ≡ o ∷ rest → new ≡ puts old (answers_in o) → puts old (concatenation (map answers_in left)) ≡ all → puts new (concatenation (map answers_in rest)) ≡ all
  placed_more old new all o left rest e f g =
      ap (λ l. puts l (concatenation (map answers_in rest))) f
      ∙ (sym (puts-append old (answers_in o) (concatenation (map answers_in rest))) ∙ (ap (λ l. puts old (concatenation (map answers_in l))) (sym e) ∙ g))

  pub below_one : (n : ℕ) (o : Option (Answers D F)) (left rest : List (Option (Answers D F))) → left ≡ o ∷ rest → AllBelow n (concatenation (map answers_in left)) → AllBelow n (answers_in o)
  below_one n o left rest e all = below-front n (answers_in o) (concatenation (map answers_in rest)) (subst (λ l. AllBelow n (concatenation (map answers_in l))) e all)

  pub below_more : (old new : List (Option (Result D F))) (o : Option (Answers D F)) (left rest : List (Option (Answers D F)))
      → left ≡ o ∷ rest → new ≡ puts old (answers_in o) → AllBelow (length old) (concatenation (map answers_in left)) → AllBelow (length new) (concatenation (map answers_in rest))
  below_more old new o left rest e f all =
      subst (λ n. AllBelow n (concatenation (map answers_in rest))) (sym (ap length f ∙ length-puts old (answers_in o)))
      (below-back (length old) (answers_in o) (concatenation (map answers_in rest)) (subst (λ l. AllBelow (length old) (concatenation (map answers_in l))) e all))

  -- one more worker's list
  pub listed_more : (vs ws : List (List ℕ)) (x : List ℕ) (all : List (List ℕ)) (o : Option (Answers D F)) (left rest : List (Option (Answers D F)))
      → left ≡ o ∷ rest → ws ≡ vs ++ x ∷ [] → x ≡ numbers_in o → vs ++ map numbers_in left ≡ all → ws ++ map numbers_in rest ≡ all
  listed_more vs ws x all o left rest e f n g =
      ap (λ l. l ++ map numbers_in rest) (lists-more vs ws x (numbers_in o) f n)
      ∙ (append_assoc vs (numbers_in o ∷ []) (map numbers_in rest) ∙ (ap (λ l. vs ++ map numbers_in l) (sym e) ∙ g))

module _ {J D F : Type 0} (allows : J → Result D F → Type 0) where
  pub values_stand : (jobs : List J) (ds : List D) → Answered allows jobs ds → AreValues allows jobs ds
  values_stand jobs ds a = λ value only. values_are allows value only jobs ds a

  -- the fault that the places have
  pub lowest_among : (jobs : List J) (slots : List (Option (Result D F))) (came : List ℕ) (fault : GangFault F) → Filled allows jobs slots came → IsFaultAmong slots fault → IsLeast allows jobs fault
  lowest_among jobs slots came OutOfMemory f among = tt
  lowest_among jobs slots came (Job number fault) f among =
      let e = among.1 in
      let l = lowest allows jobs slots came number fault e.0 e.1 f e.2 e.3 in
      (l.0, l.1, has_answers allows jobs slots came f among.0)

none_joined : (workers : ℕ) → concatenation {X = ℕ} (replicate workers []) ≡ []
none_joined zero = refl
none_joined (suc workers) = none_joined workers

pub none_listed : (n workers : ℕ) (vs : List (List ℕ)) → n ≡ 0 → vs ≡ replicate workers [] → EachOnce n vs
none_listed n workers vs none e x = ap (λ ls. occurrences x (concatenation ls)) e ∙ (ap (occurrences x) (none_joined workers) ∙ (occurrences-below x 0 ∙ ap (once_below x) (sym none)))

pub none_taken : (n workers : ℕ) (vs : List (List ℕ)) → n ≡ 0 → vs ≡ replicate workers [] → AreAllTaken n vs
none_taken n workers vs none e = record {
  board = start MOST_WORKERS;
  reached = ([], refl);
  put = sym none;
  waiting = refl;
  taken = λ w. empty_list MOST_WORKERS w ∙ (sym (empty_list workers w) ∙ ap (λ ls. get_or ls w []) (sym e));
}

pub one_empty : (counter : ℕ) (vs ws : List (List ℕ)) (x : List ℕ) → ws ≡ vs ++ x ∷ [] → x ≡ [] → vs ≡ replicate counter [] → ws ≡ replicate (counter + 1) []
one_empty counter vs ws x e f k = lists-more vs ws x [] e f ∙ (ap (λ l. l ++ [] ∷ []) k ∙ replicate_more counter [])
