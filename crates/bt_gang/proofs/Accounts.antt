-- In any run of the board, no job is lost and none occurs twice.
use Rattle.std.proofs.Common.{◌≡◌, ℕ, zero, suc, ◌+◌, ◌<◌, List, [], ◌∷◌, ◌++◌, length, get_or, set, replicate, Option, None, Some, refl, sym, ap, ◌∙◌, subst, arith}
use Rattle.std.proofs.lemmas.List.{length-set, length-replicate, get_or-set_same}
use Rattle.bt_value.specs.Lists.{concatenation}
use Rattle.bt_gang.specs.Numbers.{sum_over, is_it, below}
use Rattle.bt_gang.specs.Board.{State, start, held_job, taken_by, after_put, after_take, after_hand, Event, IsRun, IsReached, holding, IsAccounted}
use Rattle.bt_gang.specs.Board.Event.{Put, Take, Hand}
use Rattle.bt_gang.proofs.Numbers.{sum_over-append, sum_over-set_or, sum_over-concatenation, occurrences-below}

abbrev pub weight_held : (ℕ → ℕ) → Option ℕ → ℕ
weight_held h None = 0
weight_held h (Some job) = h job

pub sum_over-holding : (h : ℕ → ℕ) (held : List (Option ℕ)) → sum_over h (holding held) ≡ sum_over (weight_held h) held
sum_over-holding h [] = refl
sum_over-holding h (None ∷ rest) = let e = sum_over-holding h rest in omega arith
sum_over-holding h (Some job ∷ rest) = let e = sum_over-holding h rest in omega arith

sum_over-replicate : {X : Type 0} (f : X → ℕ) (x : X) (n : ℕ) → f x ≡ 0 → sum_over f (replicate n x) ≡ 0
sum_over-replicate f x zero e = refl
sum_over-replicate f x (suc n) e = let r = sum_over-replicate f x n e in omega arith

-- each job waits, is held or was handed in, and each job taken is held or was handed in; stated as equal sums for any weights of the numbers
pub record Accounted (workers : ℕ) (s : State) : Type 0 where
  pub held : length s.held ≡ workers
  pub taken : length s.taken ≡ workers
  pub all : (h : ℕ → ℕ) → sum_over h s.waiting + sum_over h (holding s.held) + sum_over h s.handed ≡ sum_over h (below s.put)
  pub lists : (h : ℕ → ℕ) → sum_over h (concatenation s.taken) ≡ sum_over h (holding s.held) + sum_over h s.handed

-- the weight of what a worker held is replaced by the weight of what it holds now
held_changed : (h : ℕ → ℕ) (held : List (Option ℕ)) (w : ℕ) (was now : Option ℕ) → w < length held → get_or held w None ≡ was →
    sum_over h (holding (set held w now)) + weight_held h was ≡ sum_over h (holding held) + weight_held h now
held_changed h held w was now l is =
    let i = sum_over-holding h held in
    let j = sum_over-holding h (set held w now) in
    let k = sum_over-set_or (weight_held h) held w now None l in
    let z = ap (weight_held h) is in
    omega arith

accounted_start : (n : ℕ) → Accounted n (start n)
accounted_start n = record {
  held = length-replicate n None;
  taken = length-replicate n [];
  all = λ h. let e = sum_over-replicate (weight_held h) None n refl in let f = sum_over-holding h (replicate n None) in omega arith;
  lists = λ h. let e = sum_over-replicate (weight_held h) None n refl in let f = sum_over-holding h (replicate n None) in
      let g = sum_over-concatenation h (replicate n []) in let k = sum_over-replicate (λ l. sum_over h l) [] n refl in omega arith;
}

accounted_put : (n : ℕ) (s : State) → Accounted n s → Accounted n (after_put s)
accounted_put n s a = record {
  held = a.held;
  taken = a.taken;
  all = λ h.
      let p = a.all h in
      let w = sum_over-append h s.waiting (s.put ∷ []) in
      let b = sum_over-append h (below s.put) (s.put ∷ []) in
      let g : sum_over h (s.waiting ++ s.put ∷ []) + sum_over h (holding s.held) + sum_over h s.handed ≡ sum_over h (below s.put ++ s.put ∷ []) = omega arith in
      g;
  lists = a.lists;
}

accounted_take : (n w front : ℕ) (rest : List ℕ) (s : State) → Accounted n s → w < length s.held → held_job w s ≡ None → s.waiting ≡ front ∷ rest → Accounted n (after_take w front rest s)
accounted_take n w front rest s a l none front_is = record {
  held = length-set s.held w (Some front) ∙ a.held;
  taken = length-set s.taken w (taken_by w s ++ front ∷ []) ∙ a.taken;
  all = λ h.
      let p = a.all h in
      let q = ap (sum_over h) front_is in
      let c = held_changed h s.held w None (Some front) l none in
      let g : sum_over h rest + sum_over h (holding (set s.held w (Some front))) + sum_over h s.handed ≡ sum_over h (below s.put) = omega arith in
      g;
  lists = λ h.
      let p = a.lists h in
      let c = held_changed h s.held w None (Some front) l none in
      let x = sum_over-concatenation h s.taken in
      let y = sum_over-concatenation h (set s.taken w (taken_by w s ++ front ∷ [])) in
      let u = sum_over-set_or (λ t. sum_over h t) s.taken w (taken_by w s ++ front ∷ []) [] (let e = a.held in let f = a.taken in omega arith) in
      let v = sum_over-append h (taken_by w s) (front ∷ []) in
      let g : sum_over h (concatenation (set s.taken w (taken_by w s ++ front ∷ []))) ≡ sum_over h (holding (set s.held w (Some front))) + sum_over h s.handed = omega arith in
      g;
}

accounted_hand : (n w job : ℕ) (s : State) → Accounted n s → w < length s.held → held_job w s ≡ Some job → Accounted n (after_hand w job s)
accounted_hand n w job s a l holds = record {
  held = length-set s.held w None ∙ a.held;
  taken = a.taken;
  all = λ h.
      let p = a.all h in
      let c = held_changed h s.held w (Some job) None l holds in
      let d = sum_over-append h s.handed (job ∷ []) in
      let g : sum_over h s.waiting + sum_over h (holding (set s.held w None)) + sum_over h (s.handed ++ job ∷ []) ≡ sum_over h (below s.put) = omega arith in
      g;
  lists = λ h.
      let p = a.lists h in
      let c = held_changed h s.held w (Some job) None l holds in
      let d = sum_over-append h s.handed (job ∷ []) in
      let g : sum_over h (concatenation s.taken) ≡ sum_over h (holding (set s.held w None)) + sum_over h (s.handed ++ job ∷ []) = omega arith in
      g;
}

accounted_run : (n : ℕ) (events : List Event) (s : State) → IsRun events (start n) s → Accounted n s
accounted_run n [] s run = subst (Accounted n) (sym run) (accounted_start n)
accounted_run n (Put ∷ es) s run = subst (Accounted n) (sym run.2) (accounted_put n run.0 (accounted_run n es run.0 run.1))
accounted_run n (Take w ∷ es) s run =
    let e = run.2 in
    subst (Accounted n) (sym e.5) (accounted_take n w e.0 e.1 run.0 (accounted_run n es run.0 run.1) e.2 e.3 e.4)
accounted_run n (Hand w ∷ es) s run =
    let e = run.2 in
    subst (Accounted n) (sym e.3) (accounted_hand n w e.0 run.0 (accounted_run n es run.0 run.1) e.1 e.2)

pub accounted : (n : ℕ) (s : State) → IsReached n s → Accounted n s
accounted n s r = accounted_run n r.0 s r.1

pub accounts : (n : ℕ) (s : State) → IsReached n s → IsAccounted s
accounts n s r job = let a = accounted n s r in (a.all (is_it job) ∙ occurrences-below job s.put, a.lists (is_it job))

-- a worker hands in what it holds, if it holds a job
pub freed : (n w : ℕ) (s : State) → IsReached n s → w < n → (t : State) × IsReached n t × (held_job w t ≡ None) × (t.taken ≡ s.taken) × (t.waiting ≡ s.waiting) × (t.put ≡ s.put)
freed n w s r l = by_held (held_job w s) refl where
  by_held : (o : Option ℕ) → held_job w s ≡ o → (t : State) × IsReached n t × (held_job w t ≡ None) × (t.taken ≡ s.taken) × (t.waiting ≡ s.waiting) × (t.put ≡ s.put)
  by_held None e = (s, r, e, refl, refl, refl)
  by_held (Some job) e =
      let here : w < length s.held = let a = (accounted n s r).held in omega arith in
      (after_hand w job s, (Hand w ∷ r.0, (s, r.1, (job, here, e, refl))), get_or-set_same s.held w None None here, refl, refl, refl)
