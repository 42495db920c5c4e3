-- The places of the jobs of a cut strictly rise.
use Rattle.std.proofs.Common.{◌≡◌, ℕ, zero, suc, ◌<◌, ◌≤◌, ◌&&◌, T, Bool, true, false, cond, List, [], ◌∷◌, ◌++◌, map, refl, sym, ap, subst, ◌∙◌, append-nil, append_assoc, arith}
use Rattle.std.proofs.lemmas.Bool.{cond_both}
use Rattle.std.specs.Cmp.{nat_cmp_is}
use Rattle.std.specs.Cmp.Lexicographic.{slice_cmp}
use Rattle.std.specs.FinMap.{is_sorted}
use Rattle.std.specs.FinMap.Entries.{below_all}
use Rattle.std.specs.List.{AllByRecursion as Each}
use Rattle.std.specs.Ordering.{is_lt, nat_cmp, ordering_then}
use Rattle.std.specs.declared.cmp.Ordering.TheVariants.{Less, Equal}
use Rattle.bt_form.specs.Flushes.{Child, shared}
use Rattle.bt_form.specs.Marks.{has_room}
use Rattle.bt_keycode.specs.Keys.{Key}
use Rattle.bt_form.specs.Messages.{Messages, load, with_messages}
use Rattle.bt_form.specs.Trees.{Nodes, Shape, Tree, children, leaf, inner}
use Rattle.bt_form.specs.declared.mode.Mode.{Mode}
use Rattle.bt_node.proofs.offered.FlushSteps.{slots}
use Rattle.bt_keycode.proofs.offered.Truths.{t_both, t_first, t_second}
use Rattle.bt_plan.specs.Pieces.{Place, holed_nodes, holes, holes_below, node_place_cmp, whole}
use Rattle.bt_plan.specs.Cuts.{Job, child_place, cut_out}
use Rattle.bt_plan.proofs.Filling.{opened_children, opened_node}
use Rattle.bt_plan.proofs.offered.Each.{each-append, each-weaken}

-- ---- two places

less-first : (i j : ℕ) → i < j → nat_cmp i j ≡ Less
less-first i j l = sym (nat_cmp_is i j Less l)

same-first : (i : ℕ) → nat_cmp i i ≡ Equal
same-first i = sym (nat_cmp_is i i Equal refl)

-- after equal numbers, the first that differs decides
less-after : (xs rest others : List ℕ) (i j : ℕ) → i < j → slice_cmp nat_cmp (xs ++ i ∷ rest) (xs ++ j ∷ others) ≡ Less
less-after [] rest others i j l = ap (λ o. ordering_then o (slice_cmp nat_cmp rest others)) (less-first i j l)
less-after (x ∷ xs) rest others i j l =
    ap (λ o. ordering_then o (slice_cmp nat_cmp (xs ++ i ∷ rest) (xs ++ j ∷ others))) (same-first x) ∙ less-after xs rest others i j l

-- a job at or below a place
abbrev pub IsUnder : {V M : Type 0} → Place → Job V M → Type 0
IsUnder place job = (rest : List ℕ) × (job.place ≡ record { tree = place.tree; path = place.path ++ rest })

-- a job at or below a child of a place, from the i-th on
abbrev IsPastChild : {V M : Type 0} → Place → ℕ → Job V M → Type 0
IsPastChild place i job = (j : ℕ) × (rest : List ℕ) × (i ≤ j) × (job.place ≡ record { tree = place.tree; path = place.path ++ j ∷ rest })

-- each job of a cut at this depth is at or below the place of what is cut
abbrev Under : (V : Type 0) {M : Type 0} → (Key × M → ℕ) → ℕ → Mode → Shape → Type 0
Under V {M} weigh depth mode s = (place : Place) (t : Tree V M) (p : Messages M) → Each (IsUnder place) (holes (cut_out weigh depth mode s place t p))

-- jobs with their places
abbrev pub by_place : {V M : Type 0} → List (Job V M) → List (Place × Job V M)
by_place = map (λ job. (job.place, job))

-- the places of jobs rise
abbrev pub Rise : {V M : Type 0} → List (Job V M) → Type 0
Rise jobs = T (is_sorted node_place_cmp (by_place jobs))

-- the places of the jobs of a cut at this depth rise
abbrev Rising : (V : Type 0) {M : Type 0} → (Key × M → ℕ) → ℕ → Mode → Shape → Type 0
Rising V {M} weigh depth mode s = (place : Place) (t : Tree V M) (p : Messages M) → Rise (holes (cut_out weigh depth mode s place t p))

module _ {V M : Type 0} where
  child-under : (place : Place) (i : ℕ) (job : Job V M) → IsUnder (child_place place i) job → IsPastChild place i job
  child-under place i job u =
      (i, u.0, omega arith, u.1 ∙ ap (λ path. record { tree = place.tree; path = path }) (append_assoc place.path (i ∷ []) u.0))

  past-next : (place : Place) (i : ℕ) (job : Job V M) → IsPastChild place (suc i) job → IsPastChild place i job
  past-next place i job p = (p.0, p.1, omega (arith, p.2), p.3)

  past-under : (place : Place) (job : Job V M) → IsPastChild place 0 job → IsUnder place job
  past-under place job p = (p.0 ∷ p.1, p.3)

  module _ (weigh : Key × M → ℕ) (mode : Mode) (s : Shape) where
    child-jobs : (depth : ℕ) → Under V weigh depth mode s → (place : Place) (c : Child V M × Bool) →
        Each (IsUnder place) (holes (cond c.1 (cut_out weigh depth mode s place c.0.tree c.0.pending) (whole c.0.tree)))
    child-jobs depth under place (c, true) = under place c.tree c.pending
    child-jobs depth under place (c, false) = tt

    children-jobs : (depth : ℕ) → Under V weigh depth mode s → (place : Place) (i : ℕ) (ss : List (Child V M × Bool)) →
        Each (IsPastChild place i) (holes_below (holed_nodes (opened_children weigh depth mode s place i ss)))
    children-jobs depth under place i [] = tt
    children-jobs depth under place i (c ∷ ss) =
        each-append (IsPastChild place i) _ _
        (each-weaken (IsUnder (child_place place i)) (IsPastChild place i) (child-under place i) _ (child-jobs depth under (child_place place i) c))
        (each-weaken (IsPastChild place (suc i)) (IsPastChild place i) (past-next place i) _ (children-jobs depth under place (suc i) ss))

    -- a fact about the jobs of an inner node that is cut: it holds if there are none, and for those of its children
    by_room : (Fact : List (Job V M) → Type 0) (depth : ℕ) (place : Place) (ns : Nodes V M) (b p : Messages M) → Fact [] →
        ((ss : List (Child V M × Bool)) → Fact (holes_below (holed_nodes (opened_children weigh depth mode s place 0 ss)))) → Fact (holes (cut_out weigh (suc depth) mode s place (inner ns b) p))
    by_room Fact depth place ns b p none some =
        let all = with_messages p b in
        let ss = slots weigh s mode (shared (children ns) all) in
        cond_both (has_room mode s (load weigh s.measure all)) (whole (inner ns all)) (opened_node weigh depth mode s place ss) (λ h. Fact (holes h)) (λ _. none) (λ _. some ss)

    -- each job is at or below the place of what is cut
    jobs-under : (depth : ℕ) → Under V weigh depth mode s
    jobs-under zero place t p = (([], ap (λ path. record { tree = place.tree; path = path }) (sym (append-nil place.path))), tt)
    jobs-under (suc depth) place (leaf rows) p = (([], ap (λ path. record { tree = place.tree; path = path }) (sym (append-nil place.path))), tt)
    jobs-under (suc depth) place (inner ns b) p =
        by_room (Each (IsUnder place)) depth place ns b p tt
        (λ ss. each-weaken (IsPastChild place 0) (IsUnder place) (past-under place) _ (children-jobs depth (jobs-under depth) place 0 ss))

    -- ---- order

    before-all : (place : Place) (i : ℕ) (job : Job V M) (others : List (Job V M)) → IsUnder (child_place place i) job → Each (IsPastChild place (suc i)) others →
        T (below_all node_place_cmp job.place (by_place others))
    before-all place i job [] u v = tt
    before-all place i job (other ∷ others) u v =
        let mine = child-under place i job u in
        let is : node_place_cmp job.place other.place ≡ Less =
        ap (λ q. node_place_cmp q other.place) (u.1 ∙ ap (λ path. record { tree = place.tree; path = path }) (append_assoc place.path (i ∷ []) u.0))
        ∙ ap (node_place_cmp (record { tree = place.tree; path = place.path ++ i ∷ u.0 })) v.0.3
        ∙ less-after (place.tree ∷ place.path) u.0 v.0.1 i v.0.0 (omega (arith, v.0.2)) in
        t_both _ _ (subst (λ o. T (is_lt o)) (sym is) tt) (before-all place i job others u v.1)

    below-append : (place : Place) (jobs others : List (Job V M)) → T (below_all node_place_cmp place (by_place jobs)) → T (below_all node_place_cmp place (by_place others)) →
        T (below_all node_place_cmp place (by_place (jobs ++ others)))
    below-append place [] others u v = v
    below-append place (job ∷ jobs) others u v = t_both _ _ (t_first _ _ u) (below-append place jobs others (t_second _ _ u) v)

    rise-append : (place : Place) (i : ℕ) (jobs others : List (Job V M)) → Rise jobs → Each (IsUnder (child_place place i)) jobs → Rise others → Each (IsPastChild place (suc i)) others →
        Rise (jobs ++ others)
    rise-append place i [] others r u q v = q
    rise-append place i (job ∷ jobs) others r u q v =
        t_both _ _ (below-append job.place jobs others (t_first _ _ r) (before-all place i job others u.0 v)) (rise-append place i jobs others (t_second _ _ r) u.1 q v)

    child-rises : (depth : ℕ) → Rising V weigh depth mode s → (place : Place) (c : Child V M × Bool) → Rise (holes (cond c.1 (cut_out weigh depth mode s place c.0.tree c.0.pending) (whole c.0.tree)))
    child-rises depth rising place (c, true) = rising place c.tree c.pending
    child-rises depth rising place (c, false) = tt

    children-rise : (depth : ℕ) → Rising V weigh depth mode s → (place : Place) (i : ℕ) (ss : List (Child V M × Bool))
        → Rise (holes_below (holed_nodes (opened_children weigh depth mode s place i ss)))
    children-rise depth rising place i [] = tt
    children-rise depth rising place i (c ∷ ss) =
        rise-append place i _ _ (child-rises depth rising (child_place place i) c) (child-jobs depth (jobs-under depth) (child_place place i) c)
        (children-rise depth rising place (suc i) ss) (children-jobs depth (jobs-under depth) place (suc i) ss)

    -- the jobs of a cut, from left to right
    pub cut-rises : (depth : ℕ) → Rising V weigh depth mode s
    cut-rises zero place t p = tt
    cut-rises (suc depth) place (leaf rows) p = tt
    cut-rises (suc depth) place (inner ns b) p = by_room Rise depth place ns b p tt (children-rise depth (cut-rises depth) place 0)
