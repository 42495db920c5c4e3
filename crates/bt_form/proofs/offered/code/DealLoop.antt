-- One pass that deals items.
use Rattle.std.proofs.Common.{◌≡◌, ◌∙◌, ℕ, zero, suc, ◌+◌, ◌-◌, ◌<◌, ◌≤◌, ◌%◌, ◌/◌, List, [], ◌∷◌, ◌++◌, length, take, drop, ap, sym, max, min, append_assoc, append-nil, ◌*◌, arith}
use Rattle.std.proofs.Math.Seq.{drop-length, drop-nil, take-nil}
use Rattle.std.proofs.lemmas.List.{nil_from_length}
use Rattle.std.specs.Int.{div_ceil}
use Rattle.bt_form.specs.Deals.{deal, even, parted, sizes}
use Rattle.bt_form.proofs.offered.deals.PartSizes.{length-even}

-- if no item is left
pub taken_from_none : {X : Type 0} (k n : ℕ) (part rest next all : List X) → length rest ≡ 0 → length next ≡ 0 → part ++ take k rest ≡ all → part ++ take n next ≡ all
taken_from_none k n part rest next all e f h =
    ap (λ zs. part ++ take n zs) (nil_from_length next f) ∙ ap (λ zs. part ++ zs) (take-nil n ∙ sym (take-nil k)) ∙ sym (ap (λ zs. part ++ take k zs) (nil_from_length rest e)) ∙ h

pub dropped_from_none : {X : Type 0} (k n : ℕ) (rest next all : List X) → length rest ≡ 0 → length next ≡ 0 → drop k rest ≡ all → drop n next ≡ all
dropped_from_none k n rest next all e f h = ap (drop n) (nil_from_length next f) ∙ drop-nil n ∙ sym (drop-nil k) ∙ sym (ap (drop k) (nil_from_length rest e)) ∙ h

module _ {X : Type 0} where
  -- a step of the pass over one part
  pub item_moved : (k n : ℕ) (part more rest next all : List X) (x : X) → n < k → rest ≡ x ∷ next → more ≡ part ++ x ∷ [] → part ++ take (k - n) rest ≡ all → more ++ take (k - (n + 1)) next ≡ all
  item_moved k n part more rest next all x l e m h =
      let one : k - n ≡ suc (k - (n + 1)) = omega arith in
      ap (λ zs. zs ++ take (k - (n + 1)) next) m ∙ append_assoc part (x ∷ []) (take (k - (n + 1)) next)
      ∙ sym (ap (λ i. part ++ take i (x ∷ next)) one) ∙ sym (ap (λ zs. part ++ take (k - n) zs) e) ∙ h

  pub item_passed : (k n : ℕ) (rest next all : List X) (x : X) → n < k → rest ≡ x ∷ next → drop (k - n) rest ≡ all → drop (k - (n + 1)) next ≡ all
  item_passed k n rest next all x l e h =
      let one : k - n ≡ suc (k - (n + 1)) = omega arith in
      sym (ap (λ i. drop i (x ∷ next)) one) ∙ sym (ap (drop (k - n)) e) ∙ h

  -- all of one part are moved
  pub all_moved : (k n : ℕ) (part rest all : List X) → k ≤ n → part ++ take (k - n) rest ≡ all → part ≡ all
  all_moved k n part rest all l h = let none : k - n ≡ 0 = omega arith in sym (append-nil part) ∙ sym (ap (λ i. part ++ take i rest) none) ∙ h

  pub all_passed : (k n : ℕ) (rest all : List X) → k ≤ n → drop (k - n) rest ≡ all → rest ≡ all
  all_passed k n rest all l h = let none : k - n ≡ 0 = omega arith in sym (ap (λ i. drop i rest) none) ∙ h

  -- a step of the pass over all parts
  pub part_dealt : (p n : ℕ) (sizes : List ℕ) (parts more wanted : List (List X)) (rest next xs : List X) → drop p sizes ≡ n ∷ drop (p + 1) sizes → xs ≡ take n rest → next ≡ drop n rest →
      more ≡ parts ++ xs ∷ [] → parts ++ parted (drop p sizes) rest ≡ wanted → more ++ parted (drop (p + 1) sizes) next ≡ wanted
  part_dealt p n sizes parts more wanted rest next xs s e f m h =
      ap (λ zs. zs ++ parted (drop (p + 1) sizes) next) m ∙ append_assoc parts (xs ∷ []) (parted (drop (p + 1) sizes) next)
      ∙ ap (λ ys. parts ++ ys ∷ parted (drop (p + 1) sizes) next) e ∙ ap (λ ys. parts ++ take n rest ∷ parted (drop (p + 1) sizes) ys) f
      ∙ sym (ap (λ ns. parts ++ parted ns rest) s) ∙ h

some_parts : (n m : ℕ) → 0 < n → 0 < m → 0 < div_ceil n m
some_parts n m l k = go (n / m) (n % m) (omega arith)
  where
    go : (a b : ℕ) → m * a + b ≡ n → 0 < a + min 1 b
    go zero b e = omega arith
    go (suc a) b e = omega arith

module _ {X : Type 0} where
  -- before the first part
  pub none_dealt : (m n k : ℕ) (parts : List (List X)) (rest xs : List X) → 0 < m → m < n → n ≡ length xs → k ≡ div_ceil n m → parts ≡ [] → rest ≡ xs → parts ++ parted (even n k) rest ≡ deal m xs
  none_dealt m n k parts rest xs l h e f g i =
      let some = some_parts n m (omega arith) l in
      let many : max 1 (div_ceil n m) ≡ k = omega arith in
      ap (λ ps. ps ++ parted (even n k) rest) g ∙ ap (parted (even n k)) i ∙ sym (ap (λ j. parted (even n j) xs) many)
      ∙ ap (λ j. parted (sizes j m) xs) e

  -- after the last part
  pub all_dealt : (m n k p : ℕ) (parts wanted : List (List X)) (rest : List X) → 0 < m → m < n → k ≡ div_ceil n m → p ≡ k → parts ++ parted (drop p (even n k)) rest ≡ wanted → parts ≡ wanted
  all_dealt m n k p parts wanted rest l h f e d =
      let some = some_parts n m (omega arith) l in
      let end : drop k (even n k) ≡ [] = ap (λ i. drop i (even n k)) (sym (length-even n k (omega arith))) ∙ drop-length (even n k) in
      sym (append-nil parts) ∙ sym (ap (λ ns. parts ++ parted ns rest) (ap (λ i. drop i (even n k)) e ∙ end)) ∙ d
