-- Sizes in two lists, one after the other, and the parts of these sizes.
use Rattle.std.proofs.Common.{◌≡◌, ◌∙◌, ℕ, zero, suc, ◌+◌, List, [], ◌∷◌, ◌++◌, ap, arith, drop, sym, take}
use Rattle.std.proofs.Math.Seq.{drop-nil, take-nil}

suc_plus : (p m : ℕ) → suc p + m ≡ suc (p + m)
suc_plus p m = omega arith

zero_plus : (m : ℕ) → 0 + m ≡ m
zero_plus m = omega arith

module _ {X : Type 0} where
  take_plus : (m others : ℕ) (xs : List X) → take (m + others) xs ≡ take m xs ++ take others (drop m xs)
  take_plus zero others xs = ap (λ i. take i xs) (zero_plus others)
  take_plus (suc m) others [] = take-nil (suc m + others) ∙ sym (take-nil others)
  take_plus (suc m) others (x ∷ xs) = ap (λ i. take i (x ∷ xs)) (suc_plus m others) ∙ ap (λ zs. x ∷ zs) (take_plus m others xs)

  drop_plus : (p m : ℕ) (xs : List X) → drop m (drop p xs) ≡ drop (p + m) xs
  drop_plus zero m xs = ap (λ i. drop i xs) (sym (zero_plus m))
  drop_plus (suc p) m [] = drop-nil m ∙ sym (drop-nil (suc p + m))
  drop_plus (suc p) m (x ∷ xs) = drop_plus p m xs ∙ sym (ap (λ i. drop i (x ∷ xs)) (suc_plus p m))

  -- items from a place on, and then others
  pub take-add : (p m others : ℕ) (xs : List X) → take (m + others) (drop p xs) ≡ take m (drop p xs) ++ take others (drop (p + m) xs)
  take-add p m others xs = take_plus m others (drop p xs) ∙ ap (λ zs. take m (drop p xs) ++ take others zs) (drop_plus p m xs)
