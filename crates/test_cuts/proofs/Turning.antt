-- The results of the jobs of a cut are at their places, in any order in which the jobs are run.
use Rattle.std.proofs.Common.{◌≡◌, ℕ, append_assoc, T, Bool, true, false, List, [], ◌∷◌, ◌++◌, map, reverse, inl, inr, refl, ap, subst, sym, ◌∙◌}
use Rattle.std.proofs.lemmas.Bool.{and_parts, cond-false, cond-true}
use Rattle.std.proofs.lemmas.List.{map-append, reverse-append}
use Rattle.std.proofs.lemmas.List.Elements.{All-from_recursion}
use Rattle.std.proofs.lemmas.Option.{none-some, same_Some}
use Rattle.std.specs.FinMap.{find, is_sorted}
use Rattle.std.specs.FinMap.Entries.{below_all}
use Rattle.std.specs.List.{All, AllByRecursion as Each}
use Rattle.std.specs.Ordering.{eq_by_cmp, is_eq, ordering_reverse}
use Rattle.std.specs.declared.cmp.Ordering.{Ordering}
use Rattle.std.specs.declared.cmp.Ordering.TheVariants.{Less, Equal}
use Rattle.std.specs.declared.option.Option.TheVariants.{None, Some}
use Rattle.bt_keycode.proofs.offered.Order.{is_less}
use Rattle.bt_message.specs.declared.message.Message.{Message}
use Rattle.bt_form.specs.Fits.{IsInOrder, IsRoomy}
use Rattle.bt_form.specs.Messages.{Meaning, Messages}
use Rattle.bt_form.specs.Trees.{Shape, Siblings, Tree}
use Rattle.bt_form.specs.declared.mode.Mode.{Mode}
use Rattle.bt_keycode.proofs.offered.Order.{is_equal}
use Rattle.bt_keycode.proofs.offered.Truths.{t_true, true_t}
use Rattle.bt_plan.proofs.offered.Cuts.{Answers, jobs-in_order}
use Rattle.bt_plan.proofs.offered.Each.{each-append, each-weaken}
use Rattle.bt_plan.specs.Cuts.{Job, Pieced, cut, outcome, outcomes}
use Rattle.bt_plan.specs.Laws.{PlacesRise, StandInHoles}
use Rattle.bt_plan.specs.Pieces.{Holed, Pieces, Place, node_place_cmp}
use Rattle.bt_plan.specs.Views.{IsCut, job_of, node_place}
use Rattle.bt_plan.specs.declared.job.Job as code
use Rattle.bt_plan.specs.declared.job.Place as code_place
use Rattle.bt_gather.proofs.offered.Fillable.{cut-fillable}
use Rattle.bt_gather.proofs.offered.PlaceOrder.{ties_itself, total_places}
use Rattle.bt_gather.specs.Laws.{IsFillable}
use Rattle.bt_gather.specs.Views.{pieces_of}
use Rattle.test_cuts.specs.Turns.{Among, AreInOrder, AreOdd, AreRun, AreRunBefore, AreTurned}

-- ---- lists

each-map : {X Y : Type 0} (f : X → Y) (P : Y → Type 0) (xs : List X) → Each P (map f xs) → Each (λ x. P (f x)) xs
each-map f P [] u = tt
each-map f P (x ∷ xs) u = (u.0, each-map f P xs u.1)

each-reverse : {X : Type 0} (P : X → Type 0) (xs : List X) → Each P xs → Each P (reverse xs)
each-reverse P [] u = tt
each-reverse P (x ∷ xs) u = subst (Each P) (sym (reverse-append (x ∷ []) xs)) (each-append P (reverse xs) (x ∷ []) (each-reverse P xs u.1) (u.0, tt))

-- what is true of each job, in both orders
each-turned : {X : Type 0} (P : X → Type 0) (xs ys : List X) → AreTurned xs ys → Each P xs → Each P ys
each-turned P xs ys (inl e) u = subst (Each P) (sym e) u
each-turned P xs ys (inr e) u = subst (Each P) (sym e) (each-reverse P xs u)

pub turned-in_order : {V D : Type 0} (jobs js : List (code.Job V D)) → AreTurned jobs js → AreInOrder jobs → AreInOrder js
turned-in_order = each-turned (λ job. IsInOrder job.node)

among-themselves : {X : Type 0} (xs : List X) → Each (λ x. Among x xs) xs
among-themselves [] = tt
among-themselves (x ∷ xs) = (inl refl, each-weaken (λ y. Among y xs) (λ y. Among y (x ∷ xs)) (λ y m. inr m) xs (among-themselves xs))

among-append : {X : Type 0} (x : X) (xs ys : List X) → Among x xs → Among x (xs ++ ys)
among-append x [] ys m = absurd m
among-append x (z ∷ xs) ys (inl e) = inl e
among-append x (z ∷ xs) ys (inr m) = inr (among-append x xs ys m)

among-last : {X : Type 0} (x : X) (xs : List X) → Among x (xs ++ x ∷ [])
among-last x [] = inl refl
among-last x (z ∷ xs) = inr (among-last x xs)

among-each : {X : Type 0} (P : X → Type 0) (x : X) (xs : List X) → Among x xs → Each P xs → P x
among-each P x [] m u = absurd m
among-each P x (y ∷ xs) (inl e) u = subst P (sym e) u.0
among-each P x (y ∷ xs) (inr m) u = among-each P x xs m u.1

-- ---- places

less-equal : (o : Ordering) → o ≡ Less → o ≡ Equal → ⊥
less-equal o e f = cc (e, f)

module _ {V M : Type 0} where
  abbrev by_place : List (Job V M) → List (Place × Job V M)
  by_place = map (λ job. (job.place, job))

  -- a place before all jobs is before each
  before-each : (p : Place) (jobs : List (Job V M)) → below_all node_place_cmp p (by_place jobs) ≡ true → (job : Job V M) → Among job jobs → node_place_cmp p job.place ≡ Less
  before-each p [] b job m = absurd m
  before-each p (j ∷ js) b job (inl e) = ap (λ x. node_place_cmp p x.place) e ∙ is_less _ (and_parts _ _ b).0
  before-each p (j ∷ js) b job (inr m) = before-each p js (and_parts _ _ b).1 job m

  abbrev Rise : List (Job V M) → Type 0
  Rise jobs = T (is_sorted node_place_cmp (by_place jobs))

  -- no two of the jobs at rising places are at the same place
  one-job : (jobs : List (Job V M)) → Rise jobs → (a b : Job V M) → Among a jobs → Among b jobs → node_place_cmp a.place b.place ≡ Equal → a ≡ b
  one-job [] r a b m n tie = absurd m
  one-job (j ∷ js) r a b (inl e) (inl f) tie = e ∙ sym f
  one-job (j ∷ js) r a b (inl e) (inr n) tie =
      absurd (less-equal _ (ap (λ x. node_place_cmp x.place b.place) e ∙ before-each j.place js (and_parts _ _ (true_t _ r)).0 b n) tie)
  one-job (j ∷ js) r a b (inr m) (inl f) tie =
      let less : node_place_cmp b.place a.place ≡ Less = ap (λ x. node_place_cmp x.place a.place) f ∙ before-each j.place js (and_parts _ _ (true_t _ r)).0 a m in
      let turned : node_place_cmp b.place a.place ≡ Equal = total_places.antisymm b.place a.place ∙ ap ordering_reverse tie in
      absurd (less-equal _ less turned)
  one-job (j ∷ js) r a b (inr m) (inr n) tie = one-job js (t_true _ (and_parts _ _ (true_t _ r)).1) a b m n tie

  module _ (meaning : Meaning V M) (shape : Shape) (jobs : List (Job V M)) (rise : Rise jobs) where
    -- the piece at the place of a job is the result of the job
    stands : (js : List (Job V M)) → Each (λ j. Among j jobs) js → (job : Job V M) → Among job jobs → Answers meaning shape (outcomes meaning shape js) job
    stands [] are job m xs e = absurd (none-some xs e)
    stands (j ∷ js) are job m xs e = go (stands js are.1 job m xs) (eq_by_cmp node_place_cmp job.place j.place) refl
      where
        rest : Pieces V M
        rest = outcomes meaning shape js

        go : (find node_place_cmp job.place rest ≡ Some xs → xs ≡ outcome meaning shape job) → (b : Bool) → eq_by_cmp node_place_cmp job.place j.place ≡ b → xs ≡ outcome meaning shape job
        go later true t =
            let same : job ≡ j = one-job jobs rise job j m are.0 (is_equal _ t) in
            let there : Some (outcome meaning shape j) ≡ Some xs = sym (cond-true _ (Some (outcome meaning shape j)) (find node_place_cmp job.place rest) t) ∙ e in
            sym (same_Some (outcome meaning shape j) xs there) ∙ ap (outcome meaning shape) (sym same)
        go later false t = later (sym (cond-false _ (Some (outcome meaning shape j)) (find node_place_cmp job.place rest) t) ∙ e)

    all-stand : (js : List (Job V M)) → Each (λ j. Among j jobs) js → All (Answers meaning shape (outcomes meaning shape js)) jobs
    all-stand js are =
        All-from_recursion _ jobs
        (each-weaken (λ j. Among j jobs) (Answers meaning shape (outcomes meaning shape js)) (stands js are) jobs (among-themselves jobs))

  -- the first piece at a place remains the first one there
  find-more : (p : Place) (ps more : Pieces V M) (xs : Siblings V M) → find node_place_cmp p ps ≡ Some xs → find node_place_cmp p (ps ++ more) ≡ Some xs
  find-more p [] more xs e = absurd (none-some xs e)
  find-more p (q ∷ ps) more xs e = go (find-more p ps more xs) (eq_by_cmp node_place_cmp p q.0) refl
    where
      go : (find node_place_cmp p ps ≡ Some xs → find node_place_cmp p (ps ++ more) ≡ Some xs) → (b : Bool) → eq_by_cmp node_place_cmp p q.0 ≡ b → find node_place_cmp p ((q ∷ ps) ++ more) ≡ Some xs
      go later true t = cond-true _ (Some q.1) (find node_place_cmp p (ps ++ more)) t ∙ (sym (cond-true _ (Some q.1) (find node_place_cmp p ps) t) ∙ e)
      go later false t = cond-false _ (Some q.1) (find node_place_cmp p (ps ++ more)) t ∙ later (sym (cond-false _ (Some q.1) (find node_place_cmp p ps) t) ∙ e)

  -- the first piece at a place
  find-new : (p : Place) (ps : Pieces V M) (xs : Siblings V M) → find node_place_cmp p ps ≡ None → find node_place_cmp p (ps ++ (p, xs) ∷ []) ≡ Some xs
  find-new p [] xs e = cond-true _ (Some xs) None (ties_itself p)
  find-new p (q ∷ ps) xs e = go (find-new p ps xs) (eq_by_cmp node_place_cmp p q.0) refl
    where
      go : (find node_place_cmp p ps ≡ None → find node_place_cmp p (ps ++ (p, xs) ∷ []) ≡ Some xs) → (b : Bool) → eq_by_cmp node_place_cmp p q.0 ≡ b
          → find node_place_cmp p ((q ∷ ps) ++ (p, xs) ∷ []) ≡ Some xs
      go later true t = absurd (none-some q.1 (sym e ∙ cond-true _ (Some q.1) (find node_place_cmp p ps) t))
      go later false t = cond-false _ (Some q.1) (find node_place_cmp p (ps ++ (p, xs) ∷ [])) t ∙ later (sym (cond-false _ (Some q.1) (find node_place_cmp p ps) t) ∙ e)

-- ---- the jobs at a place

module _ {V D : Type 0} (meaning : Meaning V (Message V D)) (shape : Shape) where
  pub run-more : (jobs : List (code.Job V D)) (pieces more : Pieces V (Message V D)) (left : List Place) → AreRun meaning shape jobs pieces left → AreRun meaning shape jobs (pieces ++ more) left
  run-more [] pieces more left u = tt
  run-more (job ∷ jobs) pieces more left (inl e, u) = (inl (find-more (node_place job.place) pieces more (outcome meaning shape (job_of job)) e), run-more jobs pieces more left u)
  run-more (job ∷ jobs) pieces more left (inr m, u) = (inr m, run-more jobs pieces more left u)

  left-more : (jobs : List (code.Job V D)) (pieces : Pieces V (Message V D)) (left more : List Place) → AreRun meaning shape jobs pieces left → AreRun meaning shape jobs pieces (left ++ more)
  left-more [] pieces left more u = tt
  left-more (job ∷ jobs) pieces left more (inl e, u) = (inl e, left-more jobs pieces left more u)
  left-more (job ∷ jobs) pieces left more (inr m, u) = (inr (among-append (node_place job.place) left more m), left-more jobs pieces left more u)

  -- one more job was run, or was not
  run-next : (jobs : List (code.Job V D)) (job : code.Job V D) (pieces : Pieces V (Message V D)) (left : List Place) → AreRun meaning shape jobs pieces left →
      find node_place_cmp (node_place job.place) pieces ≡ None → AreRun meaning shape (jobs ++ job ∷ []) (pieces ++ (node_place job.place, outcome meaning shape (job_of job)) ∷ []) left
  run-next jobs job pieces left u free =
      each-append _ jobs (job ∷ []) (run-more jobs pieces _ left u) (inl (find-new (node_place job.place) pieces (outcome meaning shape (job_of job)) free), tt)

  left-next : (jobs : List (code.Job V D)) (job : code.Job V D) (pieces : Pieces V (Message V D)) (left : List Place) → AreRun meaning shape jobs pieces left →
      AreRun meaning shape (jobs ++ job ∷ []) pieces (left ++ node_place job.place ∷ [])
  left-next jobs job pieces left u =
      each-append _ jobs (job ∷ []) (left-more jobs pieces left _ u) (inr (among-last (node_place job.place) left), tt)

  -- the next one of the jobs to come is run, or its place is left
  module _ (jobs coming rest : List (code.Job V D)) (job : code.Job V D) (came : rest ≡ job ∷ coming) (items : List (code_place.Place × Siblings V (Message V D))) where
    before-next : (left : List Place) → AreRunBefore meaning shape jobs rest (pieces_of items) left → AreRunBefore meaning shape jobs (job ∷ coming) (pieces_of items) left
    before-next left = subst (λ js. AreRunBefore meaning shape jobs js (pieces_of items) left) came

    pub run-step : (left : List Place) → AreRunBefore meaning shape jobs rest (pieces_of items) left → find node_place_cmp (node_place job.place) (pieces_of items) ≡ None →
        (piece : code_place.Place × Siblings V (Message V D)) → piece ≡ (job.place, outcome meaning shape (job_of job))
        → (more : List (code_place.Place × Siblings V (Message V D))) → more ≡ items ++ piece ∷ [] →
        AreRunBefore meaning shape jobs coming (pieces_of more) left
    run-step left before free piece is more grew =
        let u = before-next left before in
        let added : code_place.Place × Siblings V (Message V D) → Place × Siblings V (Message V D) = λ p. (node_place p.0, p.1) in
        subst (λ ps. AreRunBefore meaning shape jobs coming ps left)
        (sym (ap pieces_of grew ∙ map-append added items (piece ∷ []) ∙ ap (λ p. pieces_of items ++ added p ∷ []) is))
        (u.0 ++ job ∷ [], u.1 ∙ sym (append_assoc u.0 (job ∷ []) coming), run-next u.0 job (pieces_of items) left u.2 free)

    pub left-step : (places : List code_place.Place) → AreRunBefore meaning shape jobs rest (pieces_of items) (map node_place places) →
        (place : code_place.Place) → node_place place ≡ node_place job.place → (more : List code_place.Place) → more ≡ places ++ place ∷ [] →
        AreRunBefore meaning shape jobs coming (pieces_of items) (map node_place more)
    left-step places before place is more grew =
        let u = before-next (map node_place places) before in
        subst (λ left. AreRunBefore meaning shape jobs coming (pieces_of items) left)
        (sym (ap (map node_place) grew ∙ map-append node_place places (place ∷ []) ∙ ap (λ p. map node_place places ++ p ∷ []) is))
        (u.0 ++ job ∷ [], u.1 ∙ sym (append_assoc u.0 (job ∷ []) coming), left-next u.0 job (pieces_of items) (map node_place places) u.2)

  -- if there is no piece at the places that are left
  pub run-odd : (jobs : List (code.Job V D)) (pieces : Pieces V (Message V D)) (left : List Place) → AreRun meaning shape jobs pieces left
      → Each (λ p. find node_place_cmp p pieces ≡ None) left → AreOdd meaning shape jobs pieces
  run-odd [] pieces left u free = tt
  run-odd (job ∷ jobs) pieces left (inl e, u) free = ((λ xs found. sym (same_Some (outcome meaning shape (job_of job)) xs (sym e ∙ found))), run-odd jobs pieces left u free)
  run-odd (job ∷ jobs) pieces left (inr m, u) free =
      ((λ xs found. absurd (none-some xs (sym (among-each (λ p. find node_place_cmp p pieces ≡ None) (node_place job.place) left m free) ∙ found))), run-odd jobs pieces left u free)

-- ---- the jobs of a cut

map-each : {X Y : Type 0} (f : X → Y) (P : Y → Type 0) (xs : List X) → Each (λ x. P (f x)) xs → Each P (map f xs)
map-each f P [] u = tt
map-each f P (x ∷ xs) u = (u.0, map-each f P xs u.1)

module _ {V D : Type 0} (meaning : Meaning V (Message V D)) (shape : Shape) (roomy : IsRoomy shape) (c : Pieced V (Message V D)) (stand : StandInHoles meaning.weigh shape c) (rise : PlacesRise c)
    (jobs : List (code.Job V D)) (are : map job_of jobs ≡ c.jobs) where
  -- their nodes are in order
  pub are-in_order : AreInOrder jobs
  are-in_order = each-map job_of (λ job. IsInOrder job.node) jobs (subst (Each (λ job. IsInOrder job.node)) (sym are) (jobs-in_order meaning.weigh shape c stand))

  fillable : (pieces found : Pieces V (Message V D)) → pieces ≡ found → All (Answers meaning shape found) c.jobs → IsFillable meaning.weigh shape c.holed pieces
  fillable pieces found is all = cut-fillable meaning shape roomy c stand rise pieces (subst (λ ps. All (Answers meaning shape ps) c.jobs) (sym is) all)

  -- the results of the jobs in either order can fill the cut
  pub turned-fillable : (js : List (code.Job V D)) → AreTurned jobs js → (pieces : Pieces V (Message V D)) → pieces ≡ outcomes meaning shape (map job_of js)
      → IsFillable meaning.weigh shape c.holed pieces
  turned-fillable js turned pieces is =
      let here = each-map job_of (λ j. Among j c.jobs) jobs (subst (Each (λ j. Among j c.jobs)) (sym are) (among-themselves c.jobs)) in
      fillable pieces (outcomes meaning shape (map job_of js)) is
      (all-stand meaning shape c.jobs rise (map job_of js) (map-each job_of (λ j. Among j c.jobs) js (each-turned (λ j. Among (job_of j) c.jobs) jobs js turned here)))

  -- and so can odd pieces, before they are checked
  pub odd-fillable : (pieces : Pieces V (Message V D)) → AreOdd meaning shape jobs pieces → IsFillable meaning.weigh shape c.holed pieces
  odd-fillable pieces odd =
      fillable pieces pieces refl (subst (All (Answers meaning shape pieces)) are (All-from_recursion _ (map job_of jobs) (map-each job_of (Answers meaning shape pieces) jobs odd)))

module _ {V D : Type 0} (meaning : Meaning V (Message V D)) (shape : Shape) (roomy : IsRoomy shape) (holed : Shape × Holed V (Message V D) Place) (jobs : List (code.Job V D))
    (tree : Shape × Tree V (Message V D)) (same : shape ≡ tree.0) (number : ℕ) (packet : Messages (Message V D)) (depth : ℕ) (mode : Mode) (is
    : IsCut meaning.weigh holed jobs number tree packet depth mode)
    (stand : StandInHoles meaning.weigh tree.0 (cut meaning.weigh number tree.0 tree.1 packet depth mode)) (rise : PlacesRise (cut meaning.weigh number tree.0 tree.1 packet depth mode)) where
  abbrev pieced : Pieced V (Message V D)
  pieced = cut meaning.weigh number tree.0 tree.1 packet depth mode

  pub cut-in_order : AreInOrder jobs
  cut-in_order = are-in_order meaning tree.0 (subst IsRoomy same roomy) pieced stand rise jobs is.1

  as-holed : (pieces : Pieces V (Message V D)) → IsFillable meaning.weigh tree.0 pieced.holed pieces → IsFillable meaning.weigh holed.0 holed.1 pieces
  as-holed pieces f = subst (λ h. IsFillable meaning.weigh h.0 h.1 pieces) (sym is.0) f

  -- a cut can be filled by the results of its jobs, in either order
  pub cut-turned : (js : List (code.Job V D)) → AreTurned jobs js → (pieces : Pieces V (Message V D)) → pieces ≡ outcomes meaning shape (map job_of js)
      → IsFillable meaning.weigh holed.0 holed.1 pieces
  cut-turned js turned pieces are =
      as-holed pieces (turned-fillable meaning tree.0 (subst IsRoomy same roomy) pieced stand rise jobs is.1 js turned pieces (are ∙ ap (λ s. outcomes meaning s (map job_of js)) same))

  -- and odd pieces may be checked
  pub cut-odd : (pieces : Pieces V (Message V D)) → AreOdd meaning shape jobs pieces → IsFillable meaning.weigh holed.0 holed.1 pieces
  cut-odd pieces odd =
      as-holed pieces (odd-fillable meaning tree.0 (subst IsRoomy same roomy) pieced stand rise jobs is.1 pieces (subst (λ s. AreOdd meaning s jobs pieces) same odd))
