-- Each step keeps the rule of the queue.
use Rattle.std.proofs.Common.{◌≡◌, ◌≢◌, ℕ, zero, suc, ◌+◌, ◌<◌, ◌≤◌, List, [], ◌∷◌, ◌++◌, length, length-append, map, set, get_or, replicate, sym, refl, ap, ◌∙◌, subst, ⊎_elim, arith}
use Rattle.std.proofs.lemmas.List.{map-append, get_or-set_same, get_or-set_other}
use Rattle.std.proofs.lemmas.Bool.Decides.{nat_tests}
use mathlib.Core.Option.{some, some-ne-none, some-injective}
use lib.ListN.{get_elem?}
use Rattle.crossbeam_queue.specs.Fifo.{Pushes, Pops, Forks, Merges, Learns}
use Rattle.crossbeam_queue.proofs.Lists.{at_set, at_snoc, set_else}
use Rattle.bt_gang.specs.declared.rule.Known.{Known}
use Rattle.bt_gang.specs.declared.rule.NumberedJob.{NumberedJob}
use Rattle.bt_gang.specs.declared.rule.TakenList.{TakenList}
use Rattle.bt_value.specs.Lists.{concatenation}
use Rattle.bt_gang.specs.Numbers.{sum_over, is_it, occurrences, below, once_below}
use Rattle.bt_gang.specs.Board.{State, start, after_put, after_take}
use Rattle.bt_gang.specs.Board.Event.{Put, Take}
use Rattle.bt_gang.specs.Queue.{taken_list, no_lists, list_given, lists_kept, workers_of, numbers_of, AreOwnLists, known, HasList, queued, Stand, EachPass, IsBoard, IsBoardOf, Pushed, Popped}
use Rattle.bt_gang.proofs.Numbers.{sum_over-append, sum_over-set, sum_over-one, sum_over-two, sum_over-length, sum_over-concatenation, sum_over-map}
use Rattle.bt_gang.proofs.Numbers.{sum_over-places, length-below, occurrences-below, at_more, at_end, once_itself, besides, same_sums}
use Rattle.bt_gang.proofs.Accounts.{accounted, freed}

pub count_lists : (ls : List TakenList) → sum_over (λ _. 1) (workers_of ls) ≡ length ls
count_lists [] = refl
count_lists (l ∷ ls) = let e = count_lists ls in omega arith

pub at_most_once : (x n : ℕ) → once_below x n ≤ 1
at_most_once x n = grind (arith, nat_tests)

nowhere_here : (x y k : ℕ) → is_it x y + k ≡ 0 → y ≢ x
nowhere_here x y k e same = grind (arith, nat_tests, e, same)

pub below_once : (x n : ℕ) → 1 ≤ once_below x n → x < n
below_once x n l = grind (arith, nat_tests, l)

-- what one worker took in addition is not in the lists of the others
taken_else : (taken : List (List ℕ)) (w : ℕ) (new : List ℕ) (ls : List TakenList) → occurrences w (workers_of ls) ≡ 0 → AreOwnLists taken ls → AreOwnLists (set taken w new) ls
taken_else taken w new [] none are = tt
taken_else taken w new (l ∷ ls) none are = (
  get_or-set_other taken w l.worker new [] (nowhere_here w l.worker (occurrences w (workers_of ls)) none) ∙ are.0,
  taken_else taken w new ls (omega arith) are.1,
)

taken-append : (taken : List (List ℕ)) (xs ys : List TakenList) → AreOwnLists taken xs → AreOwnLists taken ys → AreOwnLists taken (xs ++ ys)
taken-append taken [] ys a b = b
taken-append taken (x ∷ xs) ys a b = (a.0, taken-append taken xs ys a.1 b)

taken_kept : (taken : List (List ℕ)) (ls : List TakenList) → AreOwnLists taken ls → AreOwnLists taken (lists_kept ls)
taken_kept taken [] are = are
taken_kept taken (a ∷ []) are = are
taken_kept taken (a ∷ b ∷ ls) are = (are.0, are.1.1)

taken_given : (taken : List (List ℕ)) (ls : List TakenList) → AreOwnLists taken ls → AreOwnLists taken (list_given ls)
taken_given taken [] are = tt
taken_given taken (a ∷ []) are = tt
taken_given taken (a ∷ b ∷ ls) are = (are.1.0, tt)

kept_given : (h : ℕ → ℕ) (ls : List TakenList) → sum_over h (workers_of (lists_kept ls)) + sum_over h (workers_of (list_given ls)) ≡ sum_over h (workers_of ls)
kept_given h [] = refl
kept_given h (a ∷ []) = omega arith
kept_given h (a ∷ b ∷ ls) = omega arith

kept_some : (ls : List TakenList) → 0 < length (lists_kept ls) → 0 < length ls
kept_some [] l = l
kept_some (a ∷ ls) l = omega arith

given_some : (ls : List TakenList) → 0 < length (list_given ls) → 0 < length ls
given_some [] l = l
given_some (a ∷ ls) l = omega arith

workers-append : (h : ℕ → ℕ) (xs ys : List TakenList) → sum_over h (workers_of (xs ++ ys)) ≡ sum_over h (workers_of xs) + sum_over h (workers_of ys)
workers-append h [] ys = omega arith
workers-append h (x ∷ xs) ys = omega (arith, workers-append h xs ys)

-- the numbers of some lists have the same weight as what their workers took
weigh_lists : (h : ℕ → ℕ) (taken : List (List ℕ)) (ls : List TakenList) → AreOwnLists taken ls → sum_over h (numbers_of ls) ≡ sum_over (λ w. sum_over h (get_or taken w [])) (workers_of ls)
weigh_lists h taken [] are = refl
weigh_lists h taken (l ∷ ls) are =
    let e = weigh_lists h taken ls are.1 in
    let a = sum_over-append h l.numbers (numbers_of ls) in
    let m = ap (sum_over h) are.0 in
    omega (arith, e, a, m)

pub empty_list : (n i : ℕ) → get_or {A = List ℕ} (replicate n []) i [] ≡ []
empty_list zero i = refl
empty_list (suc n) zero = refl
empty_list (suc n) (suc i) = empty_list n i

taken_none : (n : ℕ) (workers : List ℕ) → AreOwnLists (replicate n []) (map (λ w. taken_list w []) workers)
taken_none n [] = tt
taken_none n (w ∷ ws) = (empty_list n w, taken_none n ws)

workers_none : (workers : List ℕ) → workers_of (map (λ w. taken_list w []) workers) ≡ workers
workers_none [] = refl
workers_none (w ∷ ws) = ap (λ l. w ∷ l) (workers_none ws)

module _ {J : Type 0} where
  each_set : (P : Known J → Type 0) (views : List (Known J)) (port : ℕ) (w : Known J) → P w → ((j : ℕ) (u : Known J) → j ≢ port → get_elem? views j ≡ some u → P u) → EachPass P (set views port w)
  each_set P views port w new old j u e = ⊎_elim (λ (x : (j ≡ port) × (w ≡ u)). subst P x.1 new) (λ (x : (j ≢ port) × (get_elem? views j ≡ some u)). old j u x.0 x.1) (at_set views port j w u e)

  each_snoc : (P : Known J → Type 0) (views : List (Known J)) (w : Known J) → P w → EachPass P views → EachPass P (views ++ w ∷ [])
  each_snoc P views w new old j u e = ⊎_elim (λ (x : get_elem? views j ≡ some u). old j u x) (λ (x : w ≡ u). subst P x new) (at_snoc views w u j e)

  each_one : (P : Known J → Type 0) (w : Known J) → P w → EachPass P (w ∷ [])
  each_one P w new zero u e = subst P (some-injective w u e) new
  each_one P w new (suc j) u e = absurd (some-ne-none u (sym e))

  weigh_workers : (h : ℕ → ℕ) (views : List (Known J))
      → sum_over h (concatenation (map (λ (v : Known J). workers_of v.lists) views)) ≡ sum_over (λ (v : Known J). sum_over h (workers_of v.lists)) views
  weigh_workers h views = sum_over-concatenation h (map (λ (v : Known J). workers_of v.lists) views) ∙ sum_over-map (λ l. sum_over h l) (λ (v : Known J). workers_of v.lists) views

  -- what a pass learns: each job that it knows is in one of its lists, in the queue, or in a list that it does not have
  pub weighed : (n : ℕ) (v : Known J) (left : List ℕ) (b : IsBoardOf n v left)
      → (others : List ℕ) × ((h : ℕ → ℕ) → sum_over h (workers_of v.lists) + sum_over h others ≡ sum_over h (below n))
      × ((h : ℕ → ℕ) → sum_over h (numbers_of v.lists) + sum_over (λ w. sum_over h (get_or b.board.taken w [])) others + sum_over h left ≡ sum_over h (below (length v.jobs)))
  weighed n v left b =
      let r = besides (workers_of v.lists) (below n) (λ w. let l = b.apart w in let e = occurrences-below w n in omega arith) in
      let a = accounted n b.board b.reached in (
        r.0,
        r.1,
        (λ h.
            let weight : ℕ → ℕ = λ w. sum_over h (get_or b.board.taken w []) in
            let p = a.all h in
            let q = a.lists h in
            let w = ap (sum_over h) b.waiting in
            let e = r.1 weight in
            let m = weigh_lists h b.board.taken v.lists b.taken in
            let t = sum_over-places (λ t. sum_over h t) [] b.board.taken n a.taken ∙ sym (sum_over-concatenation h b.board.taken) in
            let k : sum_over h (below (length v.jobs)) ≡ sum_over h (below b.board.put) = ap (λ i. sum_over h (below i)) (sym b.put) in
            omega (arith, p, q, w, e, m, t, k)),
      )

module _ {J P : Type 0} where
  stand-snoc : (jobs more : List J) (items : List (NumberedJob J P)) (x : NumberedJob J P) → Stand jobs items → get_elem? (jobs ++ more) x.number ≡ some x.job → Stand (jobs ++ more) (items ++ x ∷ [])
  stand-snoc jobs more [] x all at = (at, tt)
  stand-snoc jobs more (t ∷ ts) x all at = (at_more jobs more t.number t.job all.0, stand-snoc jobs more ts x all.1 at)

  pub begins : (n : ℕ) → IsBoard {J = J} {P = P} n [] (known [] (no_lists n) ∷ [])
  begins n = record {
    jobs = [];
    board = start n;
    reached = ([], refl);
    put = refl;
    waiting = refl;
    stand = tt;
    taken = each_one (λ v. AreOwnLists (replicate n []) v.lists) (known [] (no_lists n)) (taken_none n (below n));
    apart = λ w. let e = ap (occurrences w) (workers_none (below n)) in let t = occurrences-below w n in omega arith;
    know = each_one (λ v. HasList v → v.jobs ≡ []) (known [] (no_lists n)) (λ _. refl);
  }

  -- each worker's list is in one pass, stated as a sum for any weights of the workers
  apart_weighed : (n : ℕ) (items : List (NumberedJob J P)) (views : List (Known J)) → IsBoard n items views → (h : ℕ → ℕ)
      → sum_over (λ (v : Known J). sum_over h (workers_of v.lists)) views ≡ sum_over h (below n)
  apart_weighed n items views b h =
      sym (weigh_workers h views)
      ∙ same_sums (concatenation (map (λ (v : Known J). workers_of v.lists) views)) (below n) (λ w. weigh_workers (is_it w) views ∙ (b.apart w ∙ sym (occurrences-below w n))) h

  pub pushes : (n room port : ℕ) (v : Known J) (x : NumberedJob J P) → length v.lists ≡ n → 0 < n → x.number ≡ length v.jobs → Pushes (IsBoard n) room port v x (Pushed v x)
  pushes n room port v x every some_worker next items views free b at =
      let w : Known J = known (v.jobs ++ x.job ∷ []) v.lists in
      let same : v.jobs ≡ b.jobs = b.know port v at (omega arith) in
      let new : List J = b.jobs ++ x.job ∷ [] in
      let here : x.number ≡ length b.jobs = next ∙ ap length same in
      let f : Known J → ℕ = λ u. sum_over (λ _. 1) (workers_of u.lists) in (
        w,
        record {
          jobs = new;
          board = after_put b.board;
          reached = (Put ∷ b.reached.0, (b.board, b.reached.1, refl));
          put = let p = b.put in let a = length-append b.jobs (x.job ∷ []) in let g : suc b.board.put ≡ length new = omega arith in g;
          waiting = ap (λ l. l ++ b.board.put ∷ []) b.waiting ∙ (ap (λ k. queued items ++ k ∷ []) (b.put ∙ sym here) ∙ sym (map-append (λ (item : NumberedJob J P). item.number) items (x ∷ [])));
          stand = stand-snoc b.jobs (x.job ∷ []) items x b.stand (subst (λ k. get_elem? new k ≡ some x.job) (sym here) (at_end b.jobs x.job));
          taken = each_set (λ u. AreOwnLists b.board.taken u.lists) views port w (b.taken port v at) (λ j u _ e. b.taken j u e);
          apart = λ worker. let t = sum_over-set (λ (u : Known J). occurrences worker (workers_of u.lists)) views port v w at in let p = b.apart worker in omega arith;
          know = each_set (λ u. HasList u → u.jobs ≡ new) views port w (λ _. ap (λ js. js ++ x.job ∷ []) same)
              (λ j u ne e some_list.
              let two = sum_over-two f views port j v u at e ne in
              let p = apart_weighed n items views b (λ _. 1) in
              let a = count_lists v.lists in
              let c = count_lists u.lists in
              let l = sum_over-length (below n) in
              let m = length-below n in
              absurd (omega arith));
        },
        refl,
      )

  -- a worker's list is in one pass, once
  only_here : (n port : ℕ) (items : List (NumberedJob J P)) (views : List (Known J)) (jobs : List J) (l : TakenList) (rest : List TakenList)
      → IsBoard n items views → get_elem? views port ≡ some (known jobs (l ∷ rest)) → (l.worker < n) × (occurrences l.worker (workers_of rest) ≡ 0)
  only_here n port items views jobs l rest b at =
      let w : ℕ = l.worker in
      let f : Known J → ℕ = λ u. occurrences w (workers_of u.lists) in
      let one = sum_over-one f views port (known jobs (l ∷ rest)) at in
      let p = b.apart w in
      let r = at_most_once w n in
      let s = once_itself w in
      (below_once w n (omega arith), omega arith)

  not_there : (n port j : ℕ) (items : List (NumberedJob J P)) (views : List (Known J)) (jobs : List J) (l : TakenList) (rest : List TakenList) (u : Known J)
      → IsBoard n items views → get_elem? views port ≡ some (known jobs (l ∷ rest)) → j ≢ port → get_elem? views j ≡ some u → occurrences l.worker (workers_of u.lists) ≡ 0
  not_there n port j items views jobs l rest u b at ne at' =
      let w : ℕ = l.worker in
      let f : Known J → ℕ = λ u. occurrences w (workers_of u.lists) in
      let two = sum_over-two f views port j (known jobs (l ∷ rest)) u at at' ne in
      let p = b.apart w in
      let r = at_most_once w n in
      let s = once_itself w in
      omega arith

  pub learns : (n port : ℕ) (v : Known J) → HasList v → Learns (IsBoard {J = J} {P = P} n) port v (λ items. IsBoardOf n v (queued items))
  learns n port v some_list items views b at = record {
    board = b.board;
    reached = b.reached;
    put = b.put ∙ sym (ap length (b.know port v at some_list));
    waiting = b.waiting;
    taken = b.taken port v at;
    apart = λ w. let l = sum_over-one (λ (u : Known J). occurrences w (workers_of u.lists)) views port v at in let e = b.apart w in omega arith;
  }

  pops_from : (n port : ℕ) (jobs : List J) (l : TakenList) (rest : List TakenList) → Pops (IsBoard {J = J} {P = P} n) port (known jobs (l ∷ rest)) (Popped (known jobs (l ∷ rest)))
  pops_from n port jobs l rest x items views b at =
      let v : Known J = known jobs (l ∷ rest) in
      let w : Known J = known jobs (taken_list l.worker (l.numbers ++ x.number ∷ []) ∷ rest) in
      let only = only_here n port (x ∷ items) views jobs l rest b at in
      let f = freed n l.worker b.board b.reached only.0 in
      let t : State = f.0 in
      let s : State = after_take l.worker x.number (queued items) t in
      let sizes = accounted n t f.1 in
      let are = b.taken port v at in
      let same : jobs ≡ b.jobs = b.know port v at (omega arith) in
      let was : get_or t.taken l.worker [] ≡ l.numbers = ap (λ ts. get_or ts l.worker []) f.3 ∙ are.0 in
      let new : List ℕ = get_or t.taken l.worker [] ++ x.number ∷ [] in (
        w,
        record {
          jobs = b.jobs;
          board = s;
          reached = (Take l.worker ∷ f.1.0, (t, f.1.1, (x.number, queued items, (let e = sizes.held in let o = only.0 in omega arith), f.2, f.4 ∙ b.waiting, refl)));
          put = f.5 ∙ b.put;
          waiting = refl;
          stand = b.stand.1;
          taken = each_set (λ u. AreOwnLists s.taken u.lists) views port w (
            get_or-set_same t.taken l.worker new [] (let e = sizes.taken in let o = only.0 in omega arith) ∙ ap (λ q. q ++ x.number ∷ []) was,
            taken_else t.taken l.worker new rest only.1 (subst (λ ts. AreOwnLists ts rest) (sym f.3) are.1),
          )
              (λ j u ne e. taken_else t.taken l.worker new u.lists (not_there n port j (x ∷ items) views jobs l rest u b at ne e) (subst (λ ts. AreOwnLists ts u.lists) (sym f.3) (b.taken j u e)));
          apart = λ worker. let q = sum_over-set (λ (u : Known J). occurrences worker (workers_of u.lists)) views port v w at in let p = b.apart worker in omega arith;
          know = each_set (λ u. HasList u → u.jobs ≡ b.jobs) views port w (λ _. same) (λ j u _ e. b.know j u e);
        },
        (
          refl,
          subst (λ js. get_elem? js x.number ≡ some x.job) (sym same) b.stand.0,
          (let one : ℕ → ℕ = λ _. 1 in
              let e = (weighed n v (queued (x ∷ items)) (learns n port v (omega arith) (x ∷ items) views b at)).2 one in
              let c = sum_over-length (numbers_of (l ∷ rest)) in
              let d = sum_over-length (below (length jobs)) ∙ length-below (length jobs) in
              omega (arith, c, d, e)),
        ),
      )

  pub pops : (n port : ℕ) (v : Known J) (lists : List TakenList) → v.lists ≡ lists → HasList v → Pops (IsBoard {J = J} {P = P} n) port v (Popped v)
  pops n port v [] is some_list = absurd (let e = ap length is in omega arith)
  pops n port v (l ∷ rest) is some_list = subst (λ ls. Pops (IsBoard {J = J} {P = P} n) port (known v.jobs ls) (Popped (known v.jobs ls))) (sym is) (pops_from n port v.jobs l rest)

  -- the board is the same if the lists are moved between passes
  same_board : (n : ℕ) (items : List (NumberedJob J P)) (views new : List (Known J)) (b : IsBoard {J = J} {P = P} n items views) → EachPass (λ u. AreOwnLists b.board.taken u.lists) new
      → ((worker : ℕ) → sum_over (λ (u : Known J). occurrences worker (workers_of u.lists)) new ≡ once_below worker n)
      → EachPass (λ u. HasList u → u.jobs ≡ b.jobs) new → IsBoard {J = J} {P = P} n items new
  same_board n items views new b taken apart know = record {
    jobs = b.jobs;
    board = b.board;
    reached = b.reached;
    put = b.put;
    waiting = b.waiting;
    stand = b.stand;
    taken = taken;
    apart = apart;
    know = know;
  }

  pub forks : (n port : ℕ) (v : Known J) → Forks (IsBoard {J = J} {P = P} n) port v (known v.jobs (lists_kept v.lists)) (known v.jobs (list_given v.lists))
  forks n port v items views b at =
      let l : Known J = known v.jobs (lists_kept v.lists) in
      let r : Known J = known v.jobs (list_given v.lists) in
      let vs : List (Known J) = set views port l in
      same_board n items views (vs ++ r ∷ []) b
      (each_snoc (λ u. AreOwnLists b.board.taken u.lists) vs r (taken_given b.board.taken v.lists (b.taken port v at))
      (each_set (λ u. AreOwnLists b.board.taken u.lists) views port l (taken_kept b.board.taken v.lists (b.taken port v at)) (λ j u _ e. b.taken j u e)))
      (λ w.
      let f : Known J → ℕ = λ u. occurrences w (workers_of u.lists) in
      let t = sum_over-set f views port v l at in
      let q = sum_over-append f vs (r ∷ []) in
      let k = kept_given (is_it w) v.lists in
      let p = b.apart w in
      omega arith)
      (each_snoc (λ u. HasList u → u.jobs ≡ b.jobs) vs r (λ some. b.know port v at (given_some v.lists some))
      (each_set (λ u. HasList u → u.jobs ≡ b.jobs) views port l (λ some. b.know port v at (kept_some v.lists some)) (λ j u _ e. b.know j u e)))

  pub merges : (n port : ℕ) (v : Known J) (other : ℕ) (u : Known J) → HasList v → Merges (IsBoard {J = J} {P = P} n) port v other u (known v.jobs (v.lists ++ u.lists)) (known [] [])
  merges n port v other u some_list items views b at two at' =
      let both : Known J = known v.jobs (v.lists ++ u.lists) in
      let spent : Known J = known [] [] in
      let vs : List (Known J) = set views port both in
      let there : get_elem? views other ≡ some u = sym (set_else views port other both two) ∙ at' in
      same_board n items views (set vs other spent) b
      (each_set (λ x. AreOwnLists b.board.taken x.lists) vs other spent tt
      (λ j x _ e. each_set (λ y. AreOwnLists b.board.taken y.lists) views port both
      (taken-append b.board.taken v.lists u.lists (b.taken port v at) (b.taken other u there)) (λ i y _ f. b.taken i y f) j x e))
      (λ w.
      let f : Known J → ℕ = λ x. occurrences w (workers_of x.lists) in
      let s = sum_over-set f views port v both at in
      let t = sum_over-set f vs other u spent at' in
      let a = workers-append (is_it w) v.lists u.lists in
      let p = b.apart w in
      omega arith)
      (each_set (λ x. HasList x → x.jobs ≡ b.jobs) vs other spent (λ none. absurd (omega arith))
      (λ j x _ e. each_set (λ y. HasList y → y.jobs ≡ b.jobs) views port both (λ _. b.know port v at some_list) (λ i y _ f. b.know i y f) j x e))
