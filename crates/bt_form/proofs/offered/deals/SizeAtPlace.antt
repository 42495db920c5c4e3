-- The size of the part at a place.
use Rattle.std.proofs.Common.{◌≡◌, ℕ, zero, suc, ◌+◌, ◌-◌, ◌/◌, ◌%◌, ◌<◌, ◌≤◌, List, ◌∷◌, ◌++◌, replicate, drop, refl, sym, ap, ◌∙◌, arith}
use Rattle.bt_form.specs.Deals.{even}

size_first : (n i x : ℕ) (others : List ℕ) → i < n → drop i (replicate n x ++ others) ≡ x ∷ drop (suc i) (replicate n x ++ others)
size_first zero i x others l = absurd (omega (arith, l))
size_first (suc n) zero x others l = refl
size_first (suc n) (suc i) x others l = size_first n i x others (omega (arith, l))

size_last : (n i x : ℕ) → i < n → drop i (replicate n x) ≡ x ∷ drop (suc i) (replicate n x)
size_last zero i x l = absurd (omega (arith, l))
size_last (suc n) zero x l = refl
size_last (suc n) (suc i) x l = size_last n i x (omega (arith, l))

size_later : (m n i x y : ℕ) → m ≤ i → i < m + n → drop i (replicate m y ++ replicate n x) ≡ x ∷ drop (suc i) (replicate m y ++ replicate n x)
size_later zero n i x y h l = size_last n i x (omega (arith, l))
size_later (suc m) n zero x y h l = absurd (omega (arith, h))
size_later (suc m) n (suc i) x y h l = size_later m n i x y (omega (arith, h)) (omega (arith, l))

pub longer_part : (n k i j : ℕ) → i < n % k → j ≡ suc i → drop i (even n k) ≡ (n / k + 1) ∷ drop j (even n k)
longer_part n k i j l e =
    size_first (n % k) i (n / k + 1) (replicate (k - n % k) (n / k)) l ∙ ap (λ m. (n / k + 1) ∷ drop m (even n k)) (sym e)

pub shorter_part : (n k i j : ℕ) → n % k ≤ i → i < k → j ≡ suc i → drop i (even n k) ≡ (n / k) ∷ drop j (even n k)
shorter_part n k i j h l e =
    size_later (n % k) (k - n % k) i (n / k) (n / k + 1) h (omega (arith, h, l)) ∙ ap (λ m. (n / k) ∷ drop m (even n k)) (sym e)
