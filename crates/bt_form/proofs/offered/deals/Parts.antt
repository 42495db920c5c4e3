-- Dealing loses nothing, and makes no empty part unless there are no items.
use Rattle.std.proofs.Common.{◌≡◌, ℕ, zero, suc, ◌+◌, ◌-◌, ◌*◌, ◌/◌, ◌%◌, max, min, ◌<◌, ◌≤◌, List, [], ◌∷◌, ◌++◌, replicate, length, take, drop, refl, ap, ◌∙◌, arith, take-append-drop, length-drop}
use Rattle.std.specs.List.{flat_map}
use Rattle.std.specs.Int.{div_ceil}
use Rattle.bt_form.specs.Deals.{even, sizes, parted, deal}
use Rattle.bt_form.specs.Plans.{total}

abbrev pub NonEmpty : {X : Type 0} → List X → Type 0
NonEmpty [] = ⊥
NonEmpty (x ∷ xs) = Unit {0}

abbrev pub AllNonEmpty : {X : Type 0} → List (List X) → Type 0
AllNonEmpty [] = Unit {0}
AllNonEmpty (g ∷ gs) = NonEmpty g × AllNonEmpty gs

abbrev pub joined : {X : Type 0} → List (List X) → List X
joined = flat_map (λ g. g)

pub total-append : (xs ys : List ℕ) → total (xs ++ ys) ≡ total xs + total ys
total-append [] ys = omega arith
total-append (x ∷ xs) ys = omega (arith, total-append xs ys)

total-replicate : (n x : ℕ) → total (replicate n x) ≡ n * x
total-replicate zero x = omega arith
total-replicate (suc n) x = omega (arith, total-replicate n x)

multiplied : (r d q : ℕ) → r * (q + 1) + d * q ≡ (d + r) * q + r
multiplied r d q = omega arith

pub total-even : (n k : ℕ) → 0 < k → total (even n k) ≡ n
total-even n k l =
    let r = n % k in
    let q = n / k in
    let whole : (k - r) + r ≡ k = omega arith in
    total-append (replicate r (q + 1)) (replicate (k - r) q)
    ∙ omega (arith, total-replicate r (q + 1), total-replicate (k - r) q, multiplied r (k - r) q, ap (λ x. x * q) whole)

pub total-sizes : (n m : ℕ) → total (sizes n m) ≡ n
total-sizes n m = total-even n _ (omega arith)

abbrev pub AllPositive : List ℕ → Type 0
AllPositive [] = Unit {0}
AllPositive (n ∷ ns) = (0 < n) × AllPositive ns

positive-append : (xs ys : List ℕ) → AllPositive xs → AllPositive ys → AllPositive (xs ++ ys)
positive-append [] ys p q = q
positive-append (x ∷ xs) ys p q = (p.0, positive-append xs ys p.1 q)

positive-replicate : (n x : ℕ) → 0 < x → AllPositive (replicate n x)
positive-replicate zero x l = tt
positive-replicate (suc n) x l = (l, positive-replicate n x l)

some_each : (k q r n : ℕ) → k * q + r ≡ n → r < k → k ≤ n → 0 < q
some_each k zero r n e l h = absurd (omega arith)
some_each k (suc q) r n e l h = omega arith

pub positive-even : (n k : ℕ) → 0 < k → k ≤ n → AllPositive (even n k)
positive-even n k l few =
    let some : 0 < n / k = some_each k (n / k) (n % k) n (omega arith) (omega arith) few in
    positive-append (replicate (n % k) (n / k + 1)) (replicate (k - n % k) (n / k)) (positive-replicate _ _ (omega arith)) (positive-replicate _ _ some)

few_parts : (n m a b : ℕ) → suc m * a + b ≡ n → 0 < n → a + min 1 b ≤ n
few_parts n m a b e l = omega arith

pub positive-sizes : (n m : ℕ) → 0 < n → 0 < m → AllPositive (sizes n m)
positive-sizes n zero l h = absurd (omega arith)
positive-sizes n (suc m) l h =
    let few : max 1 (div_ceil n (suc m)) ≤ n = omega (arith, few_parts n m (n / suc m) (n % suc m) (omega arith) l) in
    positive-even n (max 1 (div_ceil n (suc m))) (omega arith) few

pub joined-parted : {X : Type 0} (ns : List ℕ) (xs : List X) → total ns ≡ length xs → joined (parted ns xs) ≡ xs
joined-parted [] [] e = refl
joined-parted [] (x ∷ xs) e = absurd (omega (arith, e))
joined-parted (n ∷ ns) xs e = ap (λ z. take n xs ++ z) (joined-parted ns (drop n xs) (omega (arith, e, length-drop n xs))) ∙ take-append-drop n xs

pub joined-deal : {X : Type 0} (m : ℕ) (xs : List X) → joined (deal m xs) ≡ xs
joined-deal m xs = joined-parted (sizes (length xs) m) xs (total-sizes (length xs) m)

full-parted : {X : Type 0} (ns : List ℕ) (xs : List X) → AllPositive ns → total ns ≡ length xs → AllNonEmpty (parted ns xs)
full-parted [] xs p e = tt
full-parted (zero ∷ ns) xs p e = absurd (omega (arith, p.0))
full-parted (suc n ∷ ns) [] p e = absurd (omega (arith, e))
full-parted (suc n ∷ ns) (x ∷ xs) p e = (tt, full-parted ns (drop n xs) p.1 (omega (arith, e, length-drop n xs)))

pub full-deal : {X : Type 0} (m : ℕ) (x : X) (xs : List X) → 0 < m → AllNonEmpty (deal m (x ∷ xs))
full-deal m x xs l = full-parted (sizes (suc (length xs)) m) (x ∷ xs) (positive-sizes (suc (length xs)) m (omega arith) l) (total-sizes (suc (length xs)) m)

-- no items are dealt as one empty part
pub deal-nothing : {X : Type 0} (m : ℕ) → 0 < m → deal {X = X} m [] ≡ [] ∷ []
deal-nothing {X} m l = let one : max 1 (div_ceil 0 m) ≡ 1 = omega arith in ap (λ k. parted {X = X} (even 0 k) []) one
