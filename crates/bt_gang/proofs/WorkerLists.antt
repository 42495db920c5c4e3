-- The lists of the workers, in a pass and on the board.
use Rattle.std.proofs.Common.{◌≡◌, ◌≢◌, ℕ, zero, suc, ◌+◌, ◌-◌, ◌<◌, ◌≤◌, Bool, true, false, List, [], ◌∷◌, ◌++◌, All, length, map, drop, get_or}
use Rattle.std.proofs.Common.{nat_eq, if◌then◌else◌, Option, Some, None, IsSome, ◌⊎◌, inl, inr, ⊎_elim, refl, sym, ap, ◌∙◌, append_assoc, arith}
use Rattle.std.proofs.lemmas.Bool.{cases_lt}
use Rattle.std.proofs.lemmas.Bool.Decides.{nat_tests}
use Rattle.std.proofs.lemmas.List.{drop_all, drop_more, get_or_past, length-drop, length-map, nil_from_length}
use Rattle.std.proofs.lemmas.List.Elements.{All-head, All-rest}
use mathlib.Core.Logic.{dite}
use mathlib.Core.Option.{some, some-injective, some-ne-none}
use lib.ListN.{get_elem?}
use native.Mathlib.Decide.{ℕ_discrete}
use Rattle.bt_gang.specs.declared.answers.Answers.{Answers}
use Rattle.bt_gang.specs.declared.rule.Known.{Known}
use Rattle.bt_gang.specs.declared.rule.TakenList.{TakenList}
use Rattle.bt_value.specs.Lists.{concatenation}
use Rattle.bt_gang.specs.Numbers.{sum_over, is_it, occurrences, below, once_below}
use Rattle.bt_gang.specs.Numbered.{numbered, present}
use Rattle.bt_gang.specs.Queue.{taken_list, workers_of, numbers_of, AreOwnLists, IsBoardOf}
use Rattle.bt_gang.specs.inside.Places.{numbers_in}
use Rattle.bt_gang.specs.inside.Teams.{AreListsOf}
use Rattle.bt_gang.specs.inside.Workers.{TakenLists, own_list, lists_back, lists_left}
use Rattle.bt_gang.proofs.Numbers.{length-below, not_another, occurrences-below, sum_over-length, weighs_part}
use Rattle.bt_gang.proofs.Accounts.{accounted}
use Rattle.bt_gang.proofs.Rules.{weighed}
use Rattle.bt_gang.proofs.Takers.{below_at}

list_here : (w : ℕ) (l : TakenList) (ls : TakenLists) → l.worker ≡ w → own_list w (l ∷ ls) ≡ l.numbers
list_here w l ls e =
    let t : nat_eq l.worker w ≡ true = grind (arith, nat_tests, e) in
    ap (λ (b : Bool). if b then l.numbers else own_list w ls) t

list_after : (w : ℕ) (l : TakenList) (ls : TakenLists) → l.worker ≢ w → own_list w (l ∷ ls) ≡ own_list w ls
list_after w l ls ne =
    let t : nat_eq l.worker w ≡ false = grind (arith, nat_tests, ne) in
    ap (λ (b : Bool). if b then l.numbers else own_list w ls) t

-- a worker's list has what it took, or there is none
list_taken : (taken : List (List ℕ)) (w : ℕ) (ls : TakenLists) → AreOwnLists taken ls → (get_or taken w [] ≡ own_list w ls) ⊎ ((occurrences w (workers_of ls) ≡ 0) × (own_list w ls ≡ []))
list_taken taken w [] are = inr (refl, refl)
list_taken taken w (l ∷ ls) are = dite (ℕ_discrete l.worker w)
    (λ e. inl (ap (λ k. get_or taken k []) (sym e) ∙ (are.0 ∙ sym (list_here w l ls e))))
    (λ ne.
    let k = not_another w l.worker ne in
    ⊎_elim
    (λ (e : get_or taken w [] ≡ own_list w ls). inl (e ∙ sym (list_after w l ls ne)))
    (λ (x : (occurrences w (workers_of ls) ≡ 0) × (own_list w ls ≡ [])). inr ((let z = x.0 in omega arith), list_after w l ls ne ∙ x.1))
    (list_taken taken w ls are.1))

-- if the lists of a pass have as many numbers as there are jobs, a worker without a list took nothing
pub all_lists : {J : Type 0} (n : ℕ) (v : Known J) (b : IsBoardOf n v []) → length (numbers_of v.lists) ≡ length v.jobs → (w : ℕ) → get_or b.board.taken w [] ≡ own_list w v.lists
all_lists n v b all w = ⊎_elim
    (λ (e : get_or b.board.taken w [] ≡ own_list w v.lists). e)
    (λ (x : (occurrences w (workers_of v.lists) ≡ 0) × (own_list w v.lists ≡ [])). nothing x.0 ∙ sym x.1)
    (list_taken b.board.taken w v.lists b.taken) where
      nothing : occurrences w (workers_of v.lists) ≡ 0 → get_or b.board.taken w [] ≡ []
      nothing none =
          let r = weighed n v [] b in
          let one : ℕ → ℕ = λ _. 1 in
          let took : ℕ → ℕ = λ u. sum_over one (get_or b.board.taken u []) in
          ⊎_elim
          (λ (l : w < n).
          let e = r.1 (is_it w) in
          let t = occurrences-below w n in
          let o : 1 ≤ once_below w n = grind (arith, nat_tests, l) in
          let there = weighs_part took w r.0 (omega arith) in
          let k = r.2 one in
          let c = sum_over-length (numbers_of v.lists) in
          let d = sum_over-length (below (length v.jobs)) in
          let f = length-below (length v.jobs) in
          let g = sum_over-length (get_or b.board.taken w []) in
          nil_from_length (get_or b.board.taken w []) (omega arith))
          (λ (l : n ≤ w). get_or_past b.board.taken w [] (let e = (accounted n b.board b.reached).taken in omega arith))
          (cases_lt w n)

left_none : (n first : ℕ) → n ≤ first → lists_left n first ≡ []
left_none n first l = ap (map (λ worker. taken_list worker [])) (drop_all first (below n) (let e = length-below n in omega arith))

-- the list of the next worker is the first of those that are left
pub left_more : (n first : ℕ) → first < n → lists_left n first ≡ taken_list first [] ∷ lists_left n (suc first)
left_more n first l =
    let one : first + 1 ≡ suc first = omega arith in
    let e = drop_more (below n) first 0 (let k = length-below n in omega arith) in
    ap (map (λ worker. taken_list worker [])) (e ∙ (λ i. below_at n first l i ∷ drop (one i) (below n)))

pub length-left : (n first : ℕ) → first ≤ n → length (lists_left n first) + first ≡ n
length-left n first l =
    let a = length-map (drop first (below n)) (λ worker. taken_list worker []) in
    let b = length-drop first (below n) in
    let c = length-below n in
    omega arith

no_numbers : (workers : List ℕ) → numbers_of (map (λ worker. taken_list worker []) workers) ≡ []
no_numbers [] = refl
no_numbers (w ∷ ws) = no_numbers ws

pub numbers-left : (n first : ℕ) → numbers_of (lists_left n first) ≡ []
numbers-left n first = no_numbers (drop first (below n))

none_among : (w : ℕ) (workers : List ℕ) (ls : TakenLists) → own_list w ls ≡ [] → own_list w (map (λ worker. taken_list worker []) workers ++ ls) ≡ []
none_among w [] ls e = e
none_among w (u ∷ us) ls e = dite (ℕ_discrete u w)
    (λ same. list_here w (taken_list u []) (map (λ worker. taken_list worker []) us ++ ls) same)
    (λ ne. list_after w (taken_list u []) (map (λ worker. taken_list worker []) us ++ ls) ne ∙ none_among w us ls e)

past_left : (fuel n first w : ℕ) (ls : TakenLists) → n ≡ first + fuel → w < first → own_list w (lists_left n first ++ ls) ≡ own_list w ls
past_left zero n first w ls e l = ap (λ k. own_list w (k ++ ls)) (left_none n first (omega arith))
past_left (suc fuel) n first w ls e l =
    let ne : first ≢ w = (λ same. absurd (omega arith)) in
    ap (λ k. own_list w (k ++ ls)) (left_more n first (omega arith))
    ∙ (list_after w (taken_list first []) (lists_left n (suc first) ++ ls) ne ∙ past_left fuel n (suc first) w ls (omega arith) (omega arith))

pub numbers-append : (xs ys : TakenLists) → numbers_of (xs ++ ys) ≡ numbers_of xs ++ numbers_of ys
numbers-append [] ys = refl
numbers-append (x ∷ xs) ys = ap (λ l. x.numbers ++ l) (numbers-append xs ys) ∙ sym (append_assoc x.numbers (numbers_of xs) (numbers_of ys))

module _ {D F : Type 0} where
  back_after : (w first : ℕ) (outs : List (Option (Answers D F))) → w < first → own_list w (lists_back first outs) ≡ []
  back_after w first [] l = refl
  back_after w first (None ∷ outs) l = back_after w (suc first) outs (omega arith)
  back_after w first (Some out ∷ outs) l =
      let ne : first ≢ w = (λ same. absurd (omega arith)) in
      list_after w (taken_list first (numbered (present out.list))) (lists_back (suc first) outs) ne ∙ back_after w (suc first) outs (omega arith)

  -- the list of a worker is that of its answers
  list_back : (first j w : ℕ) (outs : List (Option (Answers D F))) → w ≡ first + j → own_list w (lists_back first outs) ≡ get_or (map numbers_in outs) j []
  list_back first j w [] e = refl
  list_back first zero w (None ∷ outs) e = back_after w (suc first) outs (omega arith)
  list_back first (suc j) w (None ∷ outs) e = list_back (suc first) j w outs (omega arith)
  list_back first zero w (Some out ∷ outs) e = list_here w (taken_list first (numbered (present out.list))) (lists_back (suc first) outs) (omega arith)
  list_back first (suc j) w (Some out ∷ outs) e =
      let ne : first ≢ w = (λ same. absurd (omega arith)) in
      list_after w (taken_list first (numbered (present out.list))) (lists_back (suc first) outs) ne ∙ list_back (suc first) j w outs (omega arith)

  pub numbers-back : (first : ℕ) (outs : List (Option (Answers D F))) → numbers_of (lists_back first outs) ≡ concatenation (map numbers_in outs)
  numbers-back first [] = refl
  numbers-back first (None ∷ outs) = numbers-back (suc first) outs
  numbers-back first (Some out ∷ outs) = ap (λ l. numbered (present out.list) ++ l) (numbers-back (suc first) outs)

  pub back_more : (first next : ℕ) (outs : List (Option (Answers D F))) (out : Option (Answers D F)) → next ≡ first + length outs
      → lists_back first (outs ++ out ∷ []) ≡ lists_back first outs ++ lists_back next (out ∷ [])
  back_more first next [] out e = let k : first ≡ next = omega arith in ap (λ i. lists_back i (out ∷ [])) k
  back_more first next (None ∷ outs) out e = back_more (suc first) next outs out (omega arith)
  back_more first next (Some o ∷ outs) out e = ap (λ ls. taken_list first (numbered (present o.list)) ∷ ls) (back_more (suc first) next outs out (omega arith))

  -- the lists of the caller's pass, after it took in those that came back
  pub lists_stand : {J : Type 0} (n k : ℕ) (v : Known J) (own : List ℕ) (outs : List (Option (Answers D F))) → length outs ≡ k → k < n
      → v.lists ≡ taken_list 0 own ∷ (lists_left n (suc k) ++ lists_back 1 outs) → AreListsOf v (own ∷ map numbers_in outs)
  lists_stand n k v own outs len few e zero = ap (own_list 0) (sym e)
  lists_stand n k v own outs len few e (suc j) =
      let back : own_list (suc j) (lists_back 1 outs) ≡ get_or (map numbers_in outs) j [] = list_back 1 j (suc j) outs (omega arith) in
      let ne : 0 ≢ suc j = (λ same. absurd (omega arith)) in
      sym (ap (own_list (suc j)) e ∙ (list_after (suc j) (taken_list 0 own) (lists_left n (suc k) ++ lists_back 1 outs) ne ∙ ⊎_elim
      (λ (l : j < k). past_left (n - suc k) n (suc k) (suc j) (lists_back 1 outs) (omega arith) (omega arith) ∙ back)
      (λ (l : k ≤ j).
      let none : get_or (map numbers_in outs) j [] ≡ [] = get_or_past (map numbers_in outs) j [] (let m = length-map outs (λ (o : Option (Answers D F)). numbers_in o) in omega arith) in
      none_among (suc j) (drop (suc k) (below n)) (lists_back 1 outs) (back ∙ none) ∙ sym none)
      (cases_lt j k)))

module _ {D F : Type 0} where
  -- if each worker came back, so did each list
  pub all_back : (first : ℕ) (outs : List (Option (Answers D F))) → All IsSome outs → length (lists_back first outs) ≡ length outs
  all_back first [] all = refl
  all_back first (None ∷ outs) all = let e = All-head IsSome None outs all in absurd (cc)
  all_back first (Some out ∷ outs) all = let e = all_back (suc first) outs (All-rest IsSome (Some out) outs (Some out ∷ outs) refl all) in omega arith

  pub no_numbers_back : (outs : List (Option (Answers D F))) (place : ℕ) → get_elem? outs place ≡ some None → get_or (map numbers_in outs) place [] ≡ []
  no_numbers_back [] place absent = absurd (some-ne-none None (sym absent))
  no_numbers_back (out ∷ outs) zero absent = ap numbers_in (some-injective out None absent)
  no_numbers_back (out ∷ outs) (suc place) absent = no_numbers_back outs place absent
