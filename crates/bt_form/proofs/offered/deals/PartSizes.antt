-- How many parts a deal makes, and how large they are.
use Rattle.std.proofs.Common.{◌≡◌, ℕ, zero, suc, ◌+◌, ◌-◌, ◌*◌, ◌/◌, ◌%◌, max, min, ◌<◌, ◌≤◌, List, [], ◌∷◌, ◌++◌, map, replicate}
use Rattle.std.proofs.Common.{length, take, drop, length-take, length-drop, length-append, refl, ap, ◌∙◌, arith, inl, inr}
use Rattle.std.specs.Int.{div_ceil}
use Rattle.std.proofs.Math.Nat.{mul-le-mul_left}
use Rattle.std.proofs.Math.Seq.{take-length}
use Rattle.std.proofs.lemmas.List.{length-replicate, length-map}
use Rattle.bt_form.specs.Plans.{total}
use Rattle.bt_form.specs.Deals.{even, sizes, parted, deal}
use Rattle.bt_form.proofs.offered.plans.RenewedChoice.{le_or_lt}
use Rattle.bt_form.proofs.offered.deals.Parts.{total-sizes}

abbrev pub Each : (ℕ → Type 0) → List ℕ → Type 0
Each P [] = Unit {0}
Each P (n ∷ ns) = P n × Each P ns

each-append : (P : ℕ → Type 0) (xs ys : List ℕ) → Each P xs → Each P ys → Each P (xs ++ ys)
each-append P [] ys p q = q
each-append P (x ∷ xs) ys p q = (p.0, each-append P xs ys p.1 q)

each-replicate : (P : ℕ → Type 0) (n x : ℕ) → (0 < n → P x) → Each P (replicate n x)
each-replicate P zero x h = tt
each-replicate P (suc n) x h = (h (omega arith), each-replicate P n x (λ _. h (omega arith)))

-- k times m is enough for n, where k is n / m rounded up
enough : (n m a b : ℕ) → m * a + b ≡ n → b < m → n ≤ max 1 (a + min 1 b) * m
enough n m a zero e l = omega (arith, mul-le-mul_left m (omega-le a))
  where
    omega-le : (a : ℕ) → a ≤ max 1 (a + min 1 0)
    omega-le a = omega arith
enough n m a (suc b) e l = omega (arith, mul-le-mul_left m (bound a b))
  where
    bound : (a b : ℕ) → a + 1 ≤ max 1 (a + min 1 (suc b))
    bound a b = omega arith

at_most : (k q r n m : ℕ) → k * q + r ≡ n → r < k → n ≤ k * m → (q ≤ m) × (0 < r → q + 1 ≤ m)
at_most k q r n m e l h = (
  elim (le_or_lt q m) [ inl ok ↦ ok | inr over ↦ absurd (omega (arith, mul-le-mul_left k over)) ],
  λ some. elim (le_or_lt (q + 1) m) [ inl ok ↦ ok | inr over ↦ absurd (omega (arith, mul-le-mul_left k (down over))) ],
)
  where
    down : m < q + 1 → m ≤ q
    down h = omega arith

pub even-at_most : (n k m : ℕ) → 0 < k → n ≤ k * m → Each (λ x. x ≤ m) (even n k)
even-at_most n k m some few =
    let fits = at_most k (n / k) (n % k) n m (omega arith) (omega arith) few in
    each-append (λ x. x ≤ m) (replicate (n % k) (n / k + 1)) (replicate (k - n % k) (n / k)) (each-replicate (λ x. x ≤ m) (n % k) (n / k + 1) fits.1)
    (each-replicate (λ x. x ≤ m) (k - n % k) (n / k) (λ _. fits.0))

pub enough-parts : (n m : ℕ) → 0 < m → n ≤ max 1 (div_ceil n m) * m
enough-parts n m l = enough n m (n / m) (n % m) (omega arith) (omega arith)

pub sizes-at_most : (n m : ℕ) → 0 < m → Each (λ x. x ≤ m) (sizes n m)
sizes-at_most n m l = even-at_most n (max 1 (div_ceil n m)) m (omega arith) (enough-parts n m l)

-- no part of two items or more has fewer than two, if a part may have three
halves : (k q r n : ℕ) → k * q + r ≡ n → r < k → 2 * k ≤ n → 2 ≤ q
halves k zero r n e l h = absurd (omega arith)
halves k (suc zero) r n e l h = absurd (omega arith)
halves k (suc (suc q)) r n e l h = omega arith

doubled : (n m a b : ℕ) → m * a + b ≡ n → b < m → 2 ≤ n → 3 ≤ m → 2 * max 1 (a + min 1 b) ≤ n
doubled n m zero b e l two three = omega arith
doubled n m (suc a) b e l two three = omega (arith, wide)
  where
    wide : 3 * suc a ≤ m * suc a
    wide = omega (arith, mul-le-mul_left (suc a) three)

pub sizes-two : (n m : ℕ) → 2 ≤ n → 3 ≤ m → Each (λ x. 2 ≤ x) (sizes n m)
sizes-two n m two three =
    let k = max 1 (div_ceil n m) in
    let q = halves k (n / k) (n % k) n (omega arith) (omega arith) (doubled n m (n / m) (n % m) (omega arith) (omega arith) two three) in
    each-append (λ x. 2 ≤ x) (replicate (n % k) (n / k + 1)) (replicate (k - n % k) (n / k)) (each-replicate (λ x. 2 ≤ x) _ _ (λ _. omega arith)) (each-replicate (λ x. 2 ≤ x) _ _ (λ _. q))

-- ---- the parts themselves

lengths-parted : {X : Type 0} (ns : List ℕ) (xs : List X) → total ns ≡ length xs → map length (parted ns xs) ≡ ns
lengths-parted [] xs e = refl
lengths-parted (n ∷ ns) xs e =
    let first : length (take n xs) ≡ n = omega (arith, length-take n xs, e) in
    ap (λ k. k ∷ map length (parted ns (drop n xs))) first ∙ ap (λ ks. n ∷ ks) (lengths-parted ns (drop n xs) (omega (arith, e, length-drop n xs)))

-- the parts of a deal have the sizes of a deal
pub lengths-deal : {X : Type 0} (m : ℕ) (xs : List X) → map length (deal m xs) ≡ sizes (length xs) m
lengths-deal m xs = lengths-parted (sizes (length xs) m) xs (total-sizes (length xs) m)

one_part : (n m a b : ℕ) → m * a + b ≡ n → b < m → n ≤ m → max 1 (a + min 1 b) ≡ 1
one_part n m zero b e l h = omega arith
one_part n m (suc zero) b e l h = omega arith
one_part n m (suc (suc a)) b e l h = absurd (omega (arith, mul-le-mul_left m (two a)))
  where
    two : (a : ℕ) → 2 ≤ suc (suc a)
    two a = omega arith

-- items that fit in one part are one part
pub deal-one : {X : Type 0} (m : ℕ) (xs : List X) → 1 ≤ m → length xs ≤ m → deal m xs ≡ xs ∷ []
deal-one m xs some fits =
    let n = length xs in
    let one = one_part n m (n / m) (n % m) (omega arith) (omega arith) fits in
    let none : n % 1 ≡ 0 = omega arith in
    let whole : n / 1 ≡ n = omega arith in
    ap (λ k. parted (even n k) xs) one
    ∙ ap (λ r. parted (replicate r (n / 1 + 1) ++ replicate (1 - r) (n / 1)) xs) none
    ∙ ap (λ q. parted (q ∷ []) xs) whole
    ∙ ap (λ z. z ∷ []) (take-length xs)

pub length-even : (n k : ℕ) → 0 < k → length (even n k) ≡ k
length-even n k l =
    omega (arith, length-append (replicate (n % k) (n / k + 1)) (replicate (k - n % k) (n / k)), length-replicate (n % k) (n / k + 1), length-replicate (k - n % k) (n / k))

-- n items, with room for m of them in a part, are more than their parts, if a part may have two
fewer : (n m a b : ℕ) → m * a + b ≡ n → b < m → 2 ≤ n → 2 ≤ m → max 1 (a + min 1 b) < n
fewer n m zero b e l some two = omega arith
fewer n m (suc a) b e l some two = omega (arith, wide)
  where
    wide : 2 * suc a ≤ m * suc a
    wide = omega (arith, mul-le-mul_left (suc a) two)

-- two items or more, dealt into parts of two or more, become fewer
pub fewer-parts : {X : Type 0} (m : ℕ) (xs : List X) → 2 ≤ m → 2 ≤ length xs → length (deal m xs) < length xs
fewer-parts m xs two some =
    let n = length xs in
    let k = max 1 (div_ceil n m) in
    omega (arith, length-map (deal m xs) length, ap length (lengths-deal m xs), length-even n k (omega arith), fewer n m (n / m) (n % m) (omega arith) (omega arith) some two)
