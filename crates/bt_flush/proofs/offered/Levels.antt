-- There are fewer nodes after siblings are put under inner nodes, and their crown is the same.
use Rattle.std.proofs.Common.{◌≡◌, ℕ, zero, suc, ◌<◌, ◌≤◌, [], ◌∷◌, map, length, refl, ap, ◌∙◌, arith}
use Rattle.std.proofs.lemmas.List.{length-map}
use Rattle.bt_keycode.specs.Keys.{Key}
use Rattle.bt_form.specs.Deals.{deal}
use Rattle.bt_form.specs.Trees.{Shape, Tree, Siblings}
use Rattle.bt_form.specs.Flushes.{pivot_first, shared, none_pending, gathered, grouped, crown_within, crown}
use Rattle.bt_flush.specs.Laws.{StandsAbove}
use Rattle.bt_form.proofs.offered.deals.PartSizes.{fewer-parts}

module _ {V M : Type 0} where
  -- without messages, none are pending
  pub shared-nothing : (xs : Siblings V M) → shared xs [] ≡ none_pending xs
  shared-nothing [] = refl
  shared-nothing (x ∷ []) = refl
  shared-nothing (x ∷ y ∷ xs) = ap (λ z. record { pivot = x.0; tree = x.1; pending = [] } ∷ z) (shared-nothing (y ∷ xs))

  length-pivot_first : (k : Key) (xs : Siblings V M) → length (pivot_first k xs) ≡ length xs
  length-pivot_first k [] = refl
  length-pivot_first k (x ∷ xs) = refl

  length-none_pending : (xs : Siblings V M) → length (none_pending xs) ≡ length xs
  length-none_pending [] = refl
  length-none_pending (x ∷ xs) = ap suc (length-none_pending xs)

  module _ (s : Shape) (two : 2 ≤ s.fanout) where
    pub raised-shorter : (xs : Siblings V M) → 2 ≤ length xs → length (grouped s (none_pending xs)) < length xs
    raised-shorter xs several =
        let cs = none_pending xs in
        let many = length-none_pending xs in
        omega (arith, length-pivot_first [] (map gathered (deal s.fanout cs)), length-map (deal s.fanout cs) gathered, many, fewer-parts s.fanout cs two (omega (arith, many, several)))

    -- Two bounds on the levels that both suffice for the siblings give the same: each level has fewer nodes than the one below it.
    crown_within-same : (h j : ℕ) (xs : Siblings V M) → length xs ≤ suc h → length xs ≤ suc j → crown_within h s xs ≡ crown_within j s xs
    crown_within-same h j [] l m = refl
    crown_within-same h j (x ∷ []) l m = refl
    crown_within-same zero j (x ∷ y ∷ xs) l m = absurd (omega (arith, l))
    crown_within-same (suc h) zero (x ∷ y ∷ xs) l m = absurd (omega (arith, m))
    crown_within-same (suc h) (suc j) (x ∷ y ∷ xs) l m =
        let shorter = raised-shorter (x ∷ y ∷ xs) (omega arith) in
        crown_within-same h j (grouped s (none_pending (x ∷ y ∷ xs))) (omega (arith, shorter, l)) (omega (arith, shorter, m))

    pub crown-again : (xs : Siblings V M) → 2 ≤ length xs → crown s xs ≡ crown s (grouped s (none_pending xs))
    crown-again [] several = absurd (omega arith)
    crown-again (x ∷ []) several = absurd (omega arith)
    crown-again (x ∷ y ∷ xs) several =
        let ys = grouped s (none_pending (x ∷ y ∷ xs)) in
        crown_within-same (suc (length xs)) (length ys) ys (omega (arith, raised-shorter (x ∷ y ∷ xs) several)) (omega arith)

    pub stands_above : (xs : Siblings V M) (t : Tree V M) → t ≡ crown s xs → StandsAbove s xs t
    stands_above xs t is = record {
      one = λ x lone. is ∙ ap (crown s) lone;
      several = λ many. is ∙ crown-again xs many;
    }
