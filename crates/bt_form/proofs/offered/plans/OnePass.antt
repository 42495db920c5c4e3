-- The loop with a repeated choice is one pass by the plan.
use Rattle.std.proofs.Common.{◌≡◌, ℕ, zero, suc, ◌<◌, ◌≤◌, Bool, true, false, cond, eqb, List, [], ◌∷◌, ◌++◌, set, map, take, drop, refl, sym, ap, ◌∙◌, arith, inl, inr, ne_eqb}
use Rattle.std.proofs.lemmas.Bool.{le-leb, lt-leb, cond-true, cond-false}
use Rattle.bt_form.specs.Plans.{total, most, place_of, fullest, planned, renewed}
use Rattle.bt_form.specs.Loops.{opened_at, after_turns, opened_items, items_at}
use Rattle.bt_form.specs.Passes.{IsLight, after_pass, marked, marked_all, unmarked}
use Rattle.bt_form.proofs.offered.plans.RenewedChoice.{le_or_lt, nothing, renewed-planned}

-- the items without their marks
abbrev pub names : {X : Type 0} → List (X × Bool) → List X
names = map (λ s. s.0)

names-marked : {X : Type 0} (i : ℕ) (ss : List (X × Bool)) → names (marked i ss) ≡ names ss
names-marked i [] = refl
names-marked zero (s ∷ ss) = refl
names-marked (suc i) (s ∷ ss) = ap (λ z. s.0 ∷ z) (names-marked i ss)

names-unmarked : {X : Type 0} (xs : List X) → names (unmarked xs) ≡ xs
names-unmarked [] = refl
names-unmarked (x ∷ xs) = ap (λ z. x ∷ z) (names-unmarked xs)

module _ {X : Type 0} (weight : X → ℕ) (parts : X → List X) (light : (x : X) → IsLight weight (parts x)) where
  -- the weight of an item that is still there
  abbrev left : X × Bool → ℕ
  left s = cond s.1 0 (weight s.0)

  pub total-light : (xs ys : List X) → IsLight weight xs → total (map weight (xs ++ ys)) ≡ total (map weight ys)
  total-light [] ys l = refl
  total-light (x ∷ xs) ys l = omega (arith, l.0, total-light xs ys l.1)

  most-light : (xs ys : List X) → IsLight weight xs → most (map weight (xs ++ ys)) ≡ most (map weight ys)
  most-light [] ys l = refl
  most-light (x ∷ xs) ys l = omega (arith, l.0, most-light xs ys l.1)

  skips : (m : ℕ) (x : X) (xs : List X) → 0 < m → weight x ≡ 0 → place_of m (map weight (x ∷ xs)) ≡ suc (place_of m (map weight xs))
  skips m x xs l e = cond-false _ _ _ (ne_eqb (weight x) m (omega (arith, l, e)))

  opened-light : (m : ℕ) (xs ys : List X) → 0 < m → IsLight weight xs
      → opened_at weight parts (place_of m (map weight (xs ++ ys))) (xs ++ ys) ≡ xs ++ opened_at weight parts (place_of m (map weight ys)) ys
  opened-light m [] ys l h = refl
  opened-light m (x ∷ xs) ys l h = ap (λ i. opened_at weight parts i (x ∷ xs ++ ys)) (skips m x (xs ++ ys) l h.0) ∙ ap (λ z. x ∷ z) (opened-light m xs ys l h.1)

  total-after_pass : (ss : List (X × Bool)) → total (map weight (after_pass parts ss)) ≡ total (map left ss)
  total-after_pass [] = refl
  total-after_pass ((x, true) ∷ ss) = omega (arith, total-light (parts x) (after_pass parts ss) (light x), total-after_pass ss)
  total-after_pass ((x, false) ∷ ss) = omega (arith, total-after_pass ss)

  most-after_pass : (ss : List (X × Bool)) → most (map weight (after_pass parts ss)) ≡ most (map left ss)
  most-after_pass [] = refl
  most-after_pass ((x, true) ∷ ss) = omega (arith, most-light (parts x) (after_pass parts ss) (light x), most-after_pass ss)
  most-after_pass ((x, false) ∷ ss) = omega (arith, most-after_pass ss)

  -- opening an item in the current list is marking it in the original list
  opened-after_pass : (m : ℕ) (ss : List (X × Bool)) → 0 < m
      → opened_at weight parts (place_of m (map weight (after_pass parts ss))) (after_pass parts ss) ≡ after_pass parts (marked (place_of m (map left ss)) ss)
  opened-after_pass m [] l = refl
  opened-after_pass m ((x, true) ∷ ss) l =
      opened-light m (parts x) (after_pass parts ss) l (light x)
      ∙ ap (λ z. parts x ++ z) (opened-after_pass m ss l)
      ∙ ap (λ i. after_pass parts (marked i ((x, true) ∷ ss))) (sym (cond-false _ 0 (suc (place_of m (map left ss))) (ne_eqb 0 m (omega arith))))
  opened-after_pass m ((x, false) ∷ ss) l =
      elim (eqb (weight x) m) as (λ b. opened_at weight parts (cond b 0 (suc (place_of m (map weight (after_pass parts ss))))) (x ∷ after_pass parts ss)
      ≡ after_pass parts (marked (cond b 0 (suc (place_of m (map left ss)))) ((x, false) ∷ ss))) [
        | true ↦ refl
        | false ↦ ap (λ z. x ∷ z) (opened-after_pass m ss l)
      ]

  left-marked : (i : ℕ) (ss : List (X × Bool)) → map left (marked i ss) ≡ set (map left ss) i 0
  left-marked i [] = refl
  left-marked zero (s ∷ ss) = refl
  left-marked (suc i) (s ∷ ss) = ap (λ z. left s ∷ z) (left-marked i ss)

  heavy : (ns : List ℕ) (capacity : ℕ) → capacity < total ns → 0 < most ns
  heavy ns capacity over = elim (le_or_lt (most ns) 0) [ inl none ↦ omega (arith, nothing ns (omega arith)) | inr h ↦ h ]

  abbrev Over : ℕ → List (X × Bool) → Type 0
  Over capacity ss = capacity < total (map left ss)

  -- the next list, if the weights are over capacity
  next : (capacity : ℕ) (ss : List (X × Bool)) → Over capacity ss
      → opened_at weight parts (fullest (map weight (after_pass parts ss))) (after_pass parts ss) ≡ after_pass parts (marked (fullest (map left ss)) ss)
  next capacity ss over =
      ap (λ m. opened_at weight parts (place_of m (map weight (after_pass parts ss))) (after_pass parts ss)) (most-after_pass ss)
      ∙ opened-after_pass (most (map left ss)) ss (heavy (map left ss) capacity over)

  after_turns-after_pass : (capacity turns : ℕ) (ss : List (X × Bool))
      → after_turns weight parts capacity turns (after_pass parts ss) ≡ after_pass parts (marked_all (renewed capacity turns (map left ss)) ss)
  after_turns-after_pass capacity zero ss = refl
  after_turns-after_pass capacity (suc turns) ss = elim (le_or_lt (total (map left ss)) capacity) [
    | inl fits ↦
        cond-true _ _ _ (le-leb _ capacity (omega (arith, fits, total-after_pass ss)))
        ∙ sym (ap (λ is. after_pass parts (marked_all is ss)) (cond-true _ _ _ (le-leb _ capacity fits)))
    | inr over ↦
        let ns = map left ss in
        cond-false _ _ _ (lt-leb (total (map weight (after_pass parts ss))) capacity (omega (arith, over, total-after_pass ss)))
        ∙ ap (after_turns weight parts capacity turns) (next capacity ss over)
        ∙ after_turns-after_pass capacity turns (marked (fullest ns) ss)
        ∙ ap (λ ms. after_pass parts (marked_all (renewed capacity turns ms) (marked (fullest ns) ss))) (left-marked (fullest ns) ss)
        ∙ sym (ap (λ is. after_pass parts (marked_all is ss)) (cond-false _ _ _ (lt-leb (total ns) capacity over)))
  ]

  after_pass-unmarked : (xs : List X) → after_pass parts (unmarked xs) ≡ xs
  after_pass-unmarked [] = refl
  after_pass-unmarked (x ∷ xs) = ap (λ z. x ∷ z) (after_pass-unmarked xs)

  left-unmarked : (xs : List X) → map left (unmarked xs) ≡ map weight xs
  left-unmarked [] = refl
  left-unmarked (x ∷ xs) = ap (λ z. weight x ∷ z) (left-unmarked xs)

  -- The loop opens exactly the planned items, each once.
  pub after_turns-planned : (capacity turns : ℕ) (xs : List X) → total (map weight xs) ≤ turns
      → after_turns weight parts capacity turns xs ≡ after_pass parts (marked_all (planned (map weight xs) capacity) (unmarked xs))
  after_turns-planned capacity turns xs l =
      ap (after_turns weight parts capacity turns) (sym (after_pass-unmarked xs))
      ∙ after_turns-after_pass capacity turns (unmarked xs)
      ∙ ap (λ ns. after_pass parts (marked_all (renewed capacity turns ns) (unmarked xs))) (left-unmarked xs)
      ∙ ap (λ is. after_pass parts (marked_all is (unmarked xs))) (renewed-planned capacity turns (map weight xs) l)

  -- ---- the items that are replaced

  prefix-light : (m : ℕ) (xs ys : List X) → 0 < m → IsLight weight xs → drop (place_of m (map weight (xs ++ ys))) (xs ++ ys) ≡ drop (place_of m (map weight ys)) ys
  prefix-light m [] ys l h = refl
  prefix-light m (x ∷ xs) ys l h = ap (λ i. drop i (x ∷ xs ++ ys)) (skips m x (xs ++ ys) l h.0) ∙ prefix-light m xs ys l h.1

  prefix-after_pass : (m : ℕ) (ss : List (X × Bool)) → 0 < m → take 1 (drop (place_of m (map weight (after_pass parts ss))) (after_pass parts ss)) ≡ take 1 (drop (place_of m (map left ss)) (names ss))
  prefix-after_pass m [] l = refl
  prefix-after_pass m ((x, true) ∷ ss) l =
      ap (take 1) (prefix-light m (parts x) (after_pass parts ss) l (light x))
      ∙ prefix-after_pass m ss l
      ∙ ap (λ i. take 1 (drop i (x ∷ names ss))) (sym (cond-false _ 0 (suc (place_of m (map left ss))) (ne_eqb 0 m (omega arith))))
  prefix-after_pass m ((x, false) ∷ ss) l =
      elim (eqb (weight x) m) as (λ b. take 1 (drop (cond b 0 (suc (place_of m (map weight (after_pass parts ss))))) (x ∷ after_pass parts ss))
      ≡ take 1 (drop (cond b 0 (suc (place_of m (map left ss)))) (x ∷ names ss))) [
        | true ↦ refl
        | false ↦ prefix-after_pass m ss l
      ]

  opened_items-after_pass : (capacity turns : ℕ) (ss : List (X × Bool)) → opened_items weight parts capacity turns (after_pass parts ss) ≡ items_at (renewed capacity turns (map left ss)) (names ss)
  opened_items-after_pass capacity zero ss = refl
  opened_items-after_pass capacity (suc turns) ss = elim (le_or_lt (total (map left ss)) capacity) [
    | inl fits ↦
        cond-true _ _ _ (le-leb _ capacity (omega (arith, fits, total-after_pass ss)))
        ∙ sym (ap (λ is. items_at is (names ss)) (cond-true _ _ _ (le-leb _ capacity fits)))
    | inr over ↦
        let ns = map left ss in
        let i = fullest ns in
        cond-false _ _ _ (lt-leb (total (map weight (after_pass parts ss))) capacity (omega (arith, over, total-after_pass ss)))
        ∙ ap (λ xs. take 1 (drop (fullest (map weight (after_pass parts ss))) (after_pass parts ss)) ++ opened_items weight parts capacity turns xs) (next capacity ss over)
        ∙ ap (λ z. z ++ opened_items weight parts capacity turns (after_pass parts (marked i ss)))
        (ap (λ m. take 1 (drop (place_of m (map weight (after_pass parts ss))) (after_pass parts ss))) (most-after_pass ss)
        ∙ prefix-after_pass (most ns) ss (heavy ns capacity over))
        ∙ ap (λ z. take 1 (drop i (names ss)) ++ z)
        (opened_items-after_pass capacity turns (marked i ss)
        ∙ ap (λ ms. items_at (renewed capacity turns ms) (names (marked i ss))) (left-marked i ss)
        ∙ ap (items_at (renewed capacity turns (set ns i 0))) (names-marked i ss))
        ∙ sym (ap (λ is. items_at is (names ss)) (cond-false _ _ _ (lt-leb (total ns) capacity over)))
  ]

  -- The items that the loop replaces are those at the planned places, in this order.
  pub opened_items-planned : (capacity turns : ℕ) (xs : List X) → total (map weight xs) ≤ turns → opened_items weight parts capacity turns xs ≡ items_at (planned (map weight xs) capacity) xs
  opened_items-planned capacity turns xs l =
      ap (opened_items weight parts capacity turns) (sym (after_pass-unmarked xs))
      ∙ opened_items-after_pass capacity turns (unmarked xs)
      ∙ ap (λ ns. items_at (renewed capacity turns ns) (names (unmarked xs))) (left-unmarked xs)
      ∙ ap (items_at (renewed capacity turns (map weight xs))) (names-unmarked xs)
      ∙ ap (λ is. items_at is xs) (renewed-planned capacity turns (map weight xs) l)
