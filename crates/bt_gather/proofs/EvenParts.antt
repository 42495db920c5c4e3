-- Even parts of a list are even parts of its first items, and then even parts of the others.
use Rattle.std.proofs.Common.{◌≡◌, ◌∙◌, ℕ, ◌+◌, ◌-◌, ◌*◌, ◌/◌, ◌%◌, ◌<◌, ◌≤◌, max, min, List, [], ◌∷◌, ◌++◌, ap, append_assoc, arith, drop, inl, inr, refl, replicate, subst, sym, take}
use Rattle.std.proofs.Math.Nat.{mul-le-mul_left}
use Rattle.std.proofs.lemmas.Grind.{div_ceil_times}
use Rattle.std.proofs.lemmas.List.{drop-drop, drop-take, replicate-append-replicate, take-take}
use Rattle.std.proofs.lemmas.Nat.{div-mul-add, mod-mul-add, mul-le}
use Rattle.std.specs.Int.{div_ceil}
use Rattle.bt_form.specs.Deals.{even, parted}
use Rattle.bt_form.specs.Plans.{total}
use Rattle.bt_gather.specs.inside.NewLeaves.{first_items}
use Rattle.bt_form.proofs.offered.plans.RenewedChoice.{le_or_lt}

-- ---- a division of a number that is given by its quotient and remainder

divided : (k q r n : ℕ) → k * q + r ≡ n → r < k → (n / k ≡ q) × (n % k ≡ r)
divided k q r n e l =
    let turned : q * k + r ≡ n = omega (arith, e) in
    (ap (λ m. m / k) (sym turned) ∙ div-mul-add q k r l, ap (λ m. m % k) (sym turned) ∙ mod-mul-add q k r l)

sizes-are : (k q r n : ℕ) → k * q + r ≡ n → r < k → even n k ≡ replicate r (q + 1) ++ replicate (k - r) q
sizes-are k q r n e l =
    let d = divided k q r n e l in
    ap (λ x. replicate (n % k) (x + 1) ++ replicate (k - n % k) x) d.0 ∙ ap (λ x. replicate x (q + 1) ++ replicate (k - x) q) d.1

-- all parts are equal
sizes-same : (k q n : ℕ) → 0 < k → k * q ≡ n → even n k ≡ replicate k q
sizes-same k q n some e = sizes-are k q 0 n (omega (arith, e)) some ∙ ap (λ x. replicate x q) (whole k)
  where
    whole : (k : ℕ) → k - 0 ≡ k
    whole k = omega arith

-- ---- the first parts, and the others

module _ (m d q r n s : ℕ) (some : 1 ≤ m) (others : 1 ≤ d) (is : (m + d) * q + r ≡ n) (below : r < m + d) where
  -- all first parts have one item more
  longer-first : (e : ℕ) → r ≡ m + e → s ≡ m * q + m → even n (m + d) ≡ even s m ++ even (n - s) d
  longer-first e more size =
      let first : even s m ≡ replicate m (q + 1) = sizes-same m (q + 1) s (omega arith) (omega (arith, size)) in
      let rest : even (n - s) d ≡ replicate e (q + 1) ++ replicate (d - e) q = sizes-are d q e (n - s) (omega (arith, size, is, more)) (omega (arith, more, below)) in
      let fewer : m + d - r ≡ d - e = omega (arith, more) in
      sizes-are (m + d) q r n is below
      ∙ ap (λ x. replicate r (q + 1) ++ replicate x q) fewer
      ∙ ap (λ x. replicate x (q + 1) ++ replicate (d - e) q) more
      ∙ ap (λ xs. xs ++ replicate (d - e) q) (sym (replicate-append-replicate m e (q + 1)))
      ∙ append_assoc (replicate m (q + 1)) (replicate e (q + 1)) (replicate (d - e) q)
      ∙ sym (ap (λ xs. xs ++ (replicate e (q + 1) ++ replicate (d - e) q)) first) ∙ sym (ap (λ xs. even s m ++ xs) rest)

  -- the other parts have one item less than the first
  longer-some : (e : ℕ) → m ≡ r + e → s ≡ m * q + r → 1 ≤ e → even n (m + d) ≡ even s m ++ even (n - s) d
  longer-some e more size one =
      let first : even s m ≡ replicate r (q + 1) ++ replicate (m - r) q = sizes-are m q r s (omega (arith, size)) (omega (arith, more)) in
      let rest : even (n - s) d ≡ replicate d q = sizes-same d q (n - s) (omega arith) (omega (arith, size, is)) in
      let fewer : m + d - r ≡ (m - r) + d = omega (arith, more) in
      sizes-are (m + d) q r n is below
      ∙ ap (λ x. replicate r (q + 1) ++ replicate x q) fewer
      ∙ ap (λ xs. replicate r (q + 1) ++ xs) (sym (replicate-append-replicate (m - r) d q))
      ∙ sym (append_assoc (replicate r (q + 1)) (replicate (m - r) q) (replicate d q))
      ∙ sym (ap (λ xs. xs ++ replicate d q) first) ∙ sym (ap (λ xs. even s m ++ xs) rest)

split-sizes : (m d n : ℕ) → 1 ≤ m → 1 ≤ d → even n (m + d) ≡ even (first_items n (m + d) m) m ++ even (n - first_items n (m + d) m) d
split-sizes m d n some others =
    let k = m + d in
    let q = n / k in
    let r = n % k in
    let s = first_items n k m in
    elim (le_or_lt m r) [
      | inl l ↦ longer-first m d q r n s some others (omega arith) (omega arith) (r - m) (omega (arith, l)) (omega (arith, l))
      | inr l ↦ longer-some m d q r n s some others (omega arith) (omega arith) (m - r) (omega (arith, l)) (omega (arith, l)) (omega (arith, l))
    ]

-- the sizes of the first parts, and those of the others
pub sizes-split : (n k m : ℕ) → 1 ≤ m → m < k → even n k ≡ even (first_items n k m) m ++ even (n - first_items n k m) (k - m)
sizes-split n k m some more =
    let whole : m + (k - m) ≡ k = omega (arith, more) in
    ap (even n) (sym whole) ∙ split-sizes m (k - m) n some (omega (arith, more))
    ∙ ap (λ j. even (first_items n j m) m ++ even (n - first_items n j m) (k - m)) whole

pub parted-append : {X : Type 0} (ns ms : List ℕ) (xs : List X) → parted (ns ++ ms) xs ≡ parted ns (take (total ns) xs) ++ parted ms (drop (total ns) xs)
parted-append [] ms xs = refl
parted-append (n ∷ ns) ms xs =
    let t = total ns in
    ap (λ ps. take n xs ∷ ps) (parted-append ns ms (drop n xs))
    ∙ ap (λ ys. take n xs ∷ parted ns (take t (drop n xs)) ++ parted ms ys) (drop-drop t n xs)
    ∙ ap (λ ys. take n xs ∷ parted ns ys ++ parted ms (drop (n + t) xs)) (sym (drop-take n t xs))
    ∙ ap (λ ys. ys ∷ parted ns (drop n (take (n + t) xs)) ++ parted ms (drop (n + t) xs)) (sym (take-take n (n + t) xs (omega arith)))

-- ---- how many parts there are, if none is larger than the most and there are as few as possible

pub record IsTight (most n k : ℕ) : Type 0 where
  pub enough : n ≤ k * most
  pub few : k * most < n + most

tight-bound : (most n k q r : ℕ) → IsTight most n k → k * q + r ≡ n → r < k → (q ≤ most) × (0 < r → q + 1 ≤ most)
tight-bound most n k q r tight is below = (
  elim (le_or_lt q most) [ inl ok ↦ ok | inr over ↦ absurd (omega (arith, mul-le-mul_left k over, tight.enough, is)) ],
  λ some. elim (le_or_lt (q + 1) most) [ inl ok ↦ ok | inr over ↦ absurd (omega (arith, mul-le-mul_left k (down over), tight.enough, is)) ],
)
  where
    down : most < q + 1 → most ≤ q
    down h = omega (arith, h)

module _ (most m d q r n s : ℕ) (tight : IsTight most n (m + d)) (is : (m + d) * q + r ≡ n) (below : r < m + d) (size : s ≡ m * q + min m r) where
  -- no part of them is too large
  both-enough : (s ≤ m * most) × (n - s ≤ d * most)
  both-enough =
      let bound = tight-bound most n (m + d) q r tight is below in
      elim (le_or_lt r 0) [
        | inl none ↦ (omega (arith, none, size, mul-le-mul_left m bound.0), omega (arith, none, size, is, mul-le-mul_left d bound.0))
        | inr some ↦
            let one = bound.1 some in
            (omega (arith, size, mul-le-mul_left m one), omega (arith, size, is, below, mul-le-mul_left d one))
      ]

  both-tight : IsTight most s m × IsTight most (n - s) d
  both-tight =
      let e = both-enough in (
        record { enough = e.0; few = omega (arith, e.1, tight.few, size) },
        record { enough = e.1; few = omega (arith, e.0, tight.few, size) },
      )

pub tight-split : (most n k m : ℕ) → 1 ≤ m → m < k → IsTight most n k → IsTight most (first_items n k m) m × IsTight most (n - first_items n k m) (k - m)
tight-split most n k m some more tight =
    let whole : m + (k - m) ≡ k = omega (arith, more) in
    both-tight most m (k - m) (n / k) (n % k) n (first_items n k m) (subst (IsTight most n) (sym whole) tight) (ap (λ j. j * (n / k) + n % k) whole ∙ omega arith) (omega (arith, more)) refl

-- the first parts have no more items than there are
pub first-few : (n k m : ℕ) → 1 ≤ m → m < k → first_items n k m ≤ n
first-few n k m some more = omega (arith, mul-le-mul_left (n / k) (upto more))
  where
    upto : m < k → m ≤ k
    upto l = omega (arith, l)

pub first_bound : (n k m : ℕ) → 0 < k → m ≤ k → first_items n k m ≤ n
first_bound n k m some few = omega (arith, mul-le-mul_left (n / k) few)

-- all of them are the first
pub first-all : (n k : ℕ) → 0 < k → first_items n k k ≡ n
first-all n k some = omega arith

-- that is the number of parts into which they are dealt
pub tight-count : (most n k : ℕ) → 1 ≤ k → 0 < most → IsTight most n k → max 1 (div_ceil n most) ≡ k
tight-count most n k some l tight =
    let c = div_ceil n most in
    let t = div_ceil_times n most l in
    elim (le_or_lt c k) [
      | inl few ↦ elim (le_or_lt k c) [
        | inl many ↦ omega (arith, few, many)
        | inr fewer ↦ absurd (omega (arith, t.0, tight.few, mul-le (c + 1) most k most (omega (arith, fewer)) (omega arith)))
      ]
      | inr more ↦ absurd (omega (arith, t.1, tight.enough, mul-le (k + 1) most c most (omega (arith, more)) (omega arith)))
    ]

-- as many parts as a deal makes
pub deal-tight : (most n : ℕ) → 0 < most → IsTight most n (div_ceil n most)
deal-tight most n l = let t = div_ceil_times n most l in record { enough = t.0; few = t.1 }
