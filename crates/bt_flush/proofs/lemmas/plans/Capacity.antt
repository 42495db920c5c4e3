-- The loop step by step: it ends within its capacity, changes nothing that is within capacity, and its bound on the steps suffices.
use Rattle.std.proofs.Common.{◌≡◌, ℕ, zero, suc, ◌+◌, ◌<◌, ◌≤◌, true, false, cond, eqb, List, [], ◌∷◌, map, refl, sym, subst, ◌∙◌, arith, inl, inr, le_refl}
use Rattle.std.proofs.lemmas.Bool.{le-leb, lt-leb, cond-true, cond-false, eqb-true, eqb-false}
use Rattle.bt_form.specs.Plans.{total, most, place_of, fullest}
use Rattle.bt_form.specs.Loops.{after_turns, opened_at}
use Rattle.bt_form.specs.Passes.{IsLight}
use Rattle.bt_form.proofs.offered.plans.RenewedChoice.{le_or_lt, nothing}
use Rattle.bt_form.proofs.offered.plans.OnePass.{after_turns-planned, total-light}

module _ {X : Type 0} (weight : X → ℕ) (parts : X → List X) (light : (x : X) → IsLight weight (parts x)) where
  total-opened : (m : ℕ) (xs : List X) → m ≤ most (map weight xs) → 0 < m → most (map weight xs) ≤ m
      → total (map weight (opened_at weight parts (place_of m (map weight xs)) xs)) + m ≡ total (map weight xs)
  total-opened m [] a b c = absurd (omega arith)
  total-opened m (x ∷ xs) a b c = elim (eqb (weight x) m) as (λ t. eqb (weight x) m ≡ t
      → total (map weight (opened_at weight parts (cond t 0 (suc (place_of m (map weight xs)))) (x ∷ xs))) + m ≡ weight x + total (map weight xs)) [
        | true ↦ λ t. omega (arith, eqb-true (weight x) m t, total-light weight parts light (parts x) xs (light x))
        | false ↦ λ t. omega (arith, total-opened m xs (later t) b (omega arith))
      ] refl
    where
      later : eqb (weight x) m ≡ false → m ≤ most (map weight xs)
      later t = omega (arith, eqb-false (weight x) m t)

  -- if the weights are over capacity, some item weighs more than 0, and opening the heaviest leaves less
  opened-less : (capacity : ℕ) (xs : List X) → capacity < total (map weight xs) →
      total (map weight (opened_at weight parts (fullest (map weight xs)) xs)) < total (map weight xs)
  opened-less capacity xs over =
      let ns = map weight xs in
      let some : 0 < most ns = elim (le_or_lt (most ns) 0) [ inl none ↦ omega (arith, nothing ns (omega arith)) | inr h ↦ h ] in
      omega (arith, total-opened (most ns) xs (omega arith) some (omega arith))

  -- in the end no more than the capacity is left
  pub after_turns-fits : (capacity turns : ℕ) (xs : List X) → total (map weight xs) ≤ turns → total (map weight (after_turns weight parts capacity turns xs)) ≤ capacity
  after_turns-fits capacity zero xs l = omega (arith, l)
  after_turns-fits capacity (suc turns) xs l = elim (le_or_lt (total (map weight xs)) capacity) [
    | inl fits ↦ subst (λ ys. total (map weight ys) ≤ capacity) (sym (cond-true _ _ _ (le-leb _ capacity fits))) fits
    | inr over ↦
        subst (λ ys. total (map weight ys) ≤ capacity) (sym (cond-false _ _ _ (lt-leb (total (map weight xs)) capacity over)))
        (after_turns-fits capacity turns (opened_at weight parts (fullest (map weight xs)) xs) (omega (arith, opened-less capacity xs over)))
  ]

  -- a list within capacity stays as it is
  pub after_turns-still : (capacity turns : ℕ) (xs : List X) → total (map weight xs) ≤ capacity → after_turns weight parts capacity turns xs ≡ xs
  after_turns-still capacity zero xs fits = refl
  after_turns-still capacity (suc turns) xs fits = cond-true _ _ _ (le-leb _ capacity fits)

  -- two bounds on the steps of at least the total weight give the same
  after_turns-same : (capacity turns more : ℕ) (xs : List X) → total (map weight xs) ≤ turns → total (map weight xs) ≤ more →
      after_turns weight parts capacity turns xs ≡ after_turns weight parts capacity more xs
  after_turns-same capacity turns more xs l m = after_turns-planned weight parts light capacity turns xs l ∙ sym (after_turns-planned weight parts light capacity more xs m)

  -- over capacity, the loop continues from the list with the heaviest replaced, as if it began there
  pub after_turns-on : (capacity turns : ℕ) (xs : List X) → capacity < total (map weight xs) → total (map weight xs) ≤ turns →
      let ys = opened_at weight parts (fullest (map weight xs)) xs in
      after_turns weight parts capacity turns xs ≡ after_turns weight parts capacity (total (map weight ys)) ys
  after_turns-on capacity zero xs over l = absurd (omega (arith, over, l))
  after_turns-on capacity (suc turns) xs over l =
      let ys = opened_at weight parts (fullest (map weight xs)) xs in
      cond-false _ _ _ (lt-leb (total (map weight xs)) capacity over)
      ∙ after_turns-same capacity turns (total (map weight ys)) ys (omega (arith, opened-less capacity xs over, l)) (le_refl (total (map weight ys)))
