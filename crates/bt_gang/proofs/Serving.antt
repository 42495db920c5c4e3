-- One more job in the list of a pass and in the answers.
use Rattle.std.proofs.Common.{◌≡◌, ℕ, zero, suc, ◌+◌, ◌<◌, ◌≤◌, List, [], ◌∷◌, ◌++◌, All, length, length-append, map, get_or}
use Rattle.std.proofs.Common.{Option, Some, None, Result, sym, refl, ap, ◌∙◌, subst, append_assoc, append-nil, arith}
use Rattle.std.proofs.lemmas.List.{map-append, length-map, nil_from_length}
use mathlib.Core.Option.{some, some-injective}
use lib.ListN.{get_elem?}
use Rattle.bt_gang.specs.declared.answers.Answer.{Answer}
use Rattle.bt_gang.specs.declared.answers.Answers.{Answers}
use Rattle.bt_gang.specs.declared.rule.Known.{Known}
use Rattle.bt_gang.specs.declared.rule.NumberedJob.{NumberedJob}
use Rattle.bt_gang.specs.declared.rule.TakenList.{TakenList}
use Rattle.bt_gang.specs.Numbers.{sum_over, is_it, below}
use Rattle.bt_gang.specs.declared.crew.TheConstants.{MOST_WORKERS}
use Rattle.bt_gang.specs.Queue.{taken_list, no_lists, grown, numbers_of, known, gained, HasList, IsBoardOf, Popped, queued}
use Rattle.bt_gang.specs.Numbered.{numbered, present}
use Rattle.bt_gang.specs.Answers.{AllMay, Gains, FoundNothing}
use Rattle.bt_gang.proofs.Numbers.{occurrences-below, sum_over-length, length-below, at_below}
use Rattle.bt_gang.proofs.Rules.{count_lists, weighed}

module _ {D F : Type 0} where
  pub numbered-append : (xs ys : List (Answer D F)) → numbered (xs ++ ys) ≡ numbered xs ++ numbered ys
  numbered-append xs ys = map-append (λ (a : Answer D F). a.number) xs ys

  pub present-append : (xs ys : List (Option (Answer D F))) → present (xs ++ ys) ≡ present xs ++ present ys
  present-append [] ys = refl
  present-append (None ∷ xs) ys = present-append xs ys
  present-append (Some a ∷ xs) ys = ap (λ l. a ∷ l) (present-append xs ys)

  -- the places after one more answer
  pub present-more : (old new : List (Option (Answer D F))) (a : Answer D F) → new ≡ old ++ Some a ∷ [] → present new ≡ present old ++ a ∷ []
  present-more old new a e = ap present e ∙ present-append old (Some a ∷ [])

  pub same_more : (out new : List (Answer D F)) (a : Answer D F) (ns ns' : List ℕ) → ns ≡ numbered out → ns' ≡ ns ++ a.number ∷ [] → new ≡ out ++ a ∷ [] → ns' ≡ numbered new
  same_more out new a ns ns' e f k = f ∙ (ap (λ l. l ++ a.number ∷ []) e ∙ (sym (numbered-append out (a ∷ [])) ∙ ap numbered (sym k)))

module _ {J D F : Type 0} (allows : J → Result D F → Type 0) where
  pub may-append : (jobs : List J) (xs ys : List (Answer D F)) → AllMay allows jobs xs → AllMay allows jobs ys → AllMay allows jobs (xs ++ ys)
  may-append jobs [] ys a b = b
  may-append jobs (x ∷ xs) ys a b = (a.0, may-append jobs xs ys a.1 b)

grown_more : (more again : List ℕ) (ls : List TakenList) → grown again (grown more ls) ≡ grown (more ++ again) ls
grown_more more again [] = refl
grown_more more again (l ∷ ls) = λ i. taken_list l.worker (append_assoc l.numbers more again i) ∷ ls

grown_nothing : (ls : List TakenList) → grown [] ls ≡ ls
grown_nothing [] = refl
grown_nothing (l ∷ ls) = λ i. taken_list l.worker (append-nil l.numbers i) ∷ ls

length-grown : (more : List ℕ) (ls : List TakenList) → length (grown more ls) ≡ length ls
length-grown more [] = refl
length-grown more (l ∷ ls) = refl

numbers-grown : (more : List ℕ) (ls : List TakenList) → 0 < length ls → length (numbers_of (grown more ls)) ≡ length (numbers_of ls) + length more
numbers-grown more [] some_list = absurd (omega arith)
numbers-grown more (l ∷ ls) some_list =
    let a = length-append (l.numbers ++ more) (numbers_of ls) in
    let b = length-append l.numbers more in
    let c = length-append l.numbers (numbers_of ls) in
    omega arith

pub read_at : {X : Type 0} (xs : List X) (i : ℕ) (x : X) → get_elem? xs i ≡ some x → get_or xs i x ≡ x
read_at [] i x e = refl
read_at (y ∷ ys) zero x e = some-injective y x e
read_at (y ∷ ys) (suc i) x e = read_at ys i x e

pub at_all : {X : Type 0} (P : X → Type 0) (xs : List X) (i : ℕ) (x : X) → All P xs → get_elem? xs i ≡ some x → P x
at_all P xs i x all e = subst P (read_at xs i x e) (all i x (at_below xs i x e))

module _ {J : Type 0} where
  pub gained_list : (v w : Known J) (more : List ℕ) → w ≡ gained v more → HasList v → HasList w
  gained_list v w more e some_list = let l = ap (λ (y : Known J). length y.lists) e in let k = length-grown more v.lists in omega arith

module _ {J D F : Type 0} (allows : J → Result D F → Type 0) where
  pub gains_none : (v : Known J) (out : Answers D F) → Gains allows v v out out
  gains_none v out = record {
    added = [];
    list = sym (append-nil (present out.list));
    pass = sym (λ i. known v.jobs (grown_nothing v.lists i));
    may = tt;
    spare = omega arith;
  }

  -- the pass took one more job, and its answer was added
  pub gains_more : {P : Type 0} (before v w : Known J) (old out new : Answers D F) (item : NumberedJob J P) (value : Result D F)
      → Gains allows before v old out → Popped v item w → allows item.job value
      → present new.list ≡ present out.list ++ record { number = item.number; value = value } ∷ [] → new.spare + 1 ≡ out.spare → Gains allows before w old new
  gains_more before v w old out new item value g popped may list spare =
      let a : Answer D F = record { number = item.number; value = value } in
      let jobs : v.jobs ≡ before.jobs = ap (λ (y : Known J). y.jobs) g.pass in
      let ns : numbered (g.added ++ a ∷ []) ≡ numbered g.added ++ item.number ∷ [] = numbered-append g.added (a ∷ []) in
      record {
        added = g.added ++ a ∷ [];
        list = list ∙ (ap (λ l. l ++ a ∷ []) g.list ∙ append_assoc (present old.list) g.added (a ∷ []));
        pass = popped.0 ∙ (ap (λ y. gained y (item.number ∷ [])) g.pass ∙ ((λ i. known before.jobs (grown_more (numbered g.added) (item.number ∷ []) before.lists i)) ∙ ap (gained before) (sym ns)));
        may = may-append allows before.jobs g.added (a ∷ []) g.may ((item.job, subst (λ js. get_elem? js item.number ≡ some item.job) jobs popped.1, may), tt);
        spare = let p = g.spare in let l = length-append g.added (a ∷ []) in omega arith;
      }

  -- there is room for one more
  pub spare_left : {P : Type 0} (before v w : Known J) (old out : Answers D F) (item : NumberedJob J P)
      → Gains allows before v old out → Popped v item w → HasList before → length before.jobs ≤ old.spare + length (numbers_of before.lists) → 0 < out.spare
  spare_left before v w old out item g popped some_list room =
      let p = g.spare in
      let n = numbers-grown (numbered g.added) before.lists some_list in
      let k = length-map g.added (λ (a : Answer D F). a.number) in
      let l = ap (λ (y : Known J). length (numbers_of y.lists)) g.pass in
      let j = ap (λ (y : Known J). length y.jobs) g.pass in
      let r = popped.2 in
      omega arith

length-none : (n : ℕ) → length (no_lists n) ≡ n
length-none n = length-map (below n) (λ worker. taken_list worker []) ∙ length-below n

none_taken : (workers : List ℕ) (h : ℕ → ℕ) → sum_over h (numbers_of (map (λ worker. taken_list worker []) workers)) ≡ 0
none_taken [] h = refl
none_taken (w ∷ ws) h = none_taken ws h

module _ {J : Type 0} where
  -- if a pass has the lists of all workers, each job is in one of them or in the queue
  all_weighed : (n : ℕ) (v : Known J) (left : List ℕ) → IsBoardOf n v left → length v.lists ≡ n → (h : ℕ → ℕ) → sum_over h (numbers_of v.lists) + sum_over h left ≡ sum_over h (below (length v.jobs))
  all_weighed n v left b all h =
      let r = weighed n v left b in
      let one : ℕ → ℕ = λ _. 1 in
      let e = r.1 one in
      let a = count_lists v.lists in
      let c = sum_over-length (below n) in
      let d = length-below n in
      let f = sum_over-length r.0 in
      let none : r.0 ≡ [] = nil_from_length r.0 (omega arith) in
      let k = r.2 h in
      let z : sum_over (λ w. sum_over h (get_or b.board.taken w [])) r.0 ≡ 0 = ap (sum_over (λ w. sum_over h (get_or b.board.taken w []))) none in
      omega arith

  pub found_nothing : (n : ℕ) (v : Known J) → IsBoardOf n v [] → n ≡ MOST_WORKERS → FoundNothing v
  found_nothing n v b most = λ job.
      let t = occurrences-below job (length v.jobs) in (
        (let k = (weighed n v [] b).2 (is_it job) in omega arith),
        (λ all. let k = all_weighed n v [] b (all ∙ sym most) (is_it job) in omega arith),
      )

  pub lists_length : (n : ℕ) (v : Known J) (jobs : List J) → v ≡ known jobs (no_lists n) → length v.lists ≡ n
  lists_length n v jobs e = ap (λ (y : Known J). length y.lists) e ∙ length-none n

module _ {J P : Type 0} where
  -- nothing waited at the last pop
  pub nothing_waits : (n : ℕ) (v w : Known J) → w ≡ v → (items : List (NumberedJob J P)) × (length items ≡ 0) × IsBoardOf n v (queued items) → IsBoardOf n w []
  nothing_waits n v w e (items, none, b) = subst (λ u. IsBoardOf n u []) (sym e) (subst (λ left. IsBoardOf n v (queued left)) (nil_from_length items none) b)

  -- a queue with as many places as jobs is not full before the last job
  pub never_full : (n : ℕ) (v : Known J) (jobs : List J) (places : ℕ) → v ≡ known jobs (no_lists n) → (items : List (NumberedJob J P))
      × (length items ≡ places) × IsBoardOf n v (queued items) → places ≡ length jobs
  never_full n v jobs places e (items, full, b) =
      let one : ℕ → ℕ = λ _. 1 in
      let p = all_weighed n v (queued items) b (lists_length n v jobs e) one in
      let q = sum_over-length (queued items) ∙ length-map items (λ (item : NumberedJob J P). item.number) in
      let r = ap (λ (y : Known J). sum_over one (numbers_of y.lists)) e ∙ none_taken (below n) one in
      let s = sum_over-length (below (length v.jobs)) ∙ length-below (length v.jobs) in
      let t = ap (λ (y : Known J). length y.jobs) e in
      omega arith
