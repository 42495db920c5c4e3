-- Keys are ordered by eight bytes as a number, if the bytes before them are the same, and short keys at last by their length. Used by `Key::compare`.
use Rattle.std.proofs.Common.{◌≡◌, ◌≢◌, ℕ, zero, suc, ◌+◌, ◌++◌, ◌^◌, ◌<◌, ◌≤◌, List, [], ◌∷◌, drop, length, refl, sym, ap, ◌∙◌, ◌⊎◌, inl, inr, arith, zero-add, suc-add, lit≤}
use Rattle.std.proofs.Math.Seq.{drop-nil}
use Rattle.std.specs.Cmp.{nat_cmp_is, ranks}
use Rattle.std.specs.Cmp.Lexicographic.{slice_cmp}
use Rattle.std.specs.FinMap.{nat_cmp-IsAntisymmetric, slice_cmp-IsAntisymmetric}
use Rattle.std.specs.Ordering.{nat_cmp, MatchOrdering}
use Rattle.std.specs.declared.cmp.Ordering.{Ordering}
use Rattle.std.specs.declared.cmp.Ordering.TheVariants.{Less, Equal, Greater}
use Rattle.bt_value.specs.Paddings.{padded}
use Rattle.bt_keycode.specs.Codes.{eight_bytes}
use Rattle.bt_keycode.specs.Prefixes.{first_eight}
use Rattle.bt_keycode.proofs.Numbers.{slice_cmp-eight_bytes}
use Rattle.bt_keycode.proofs.Paddings.{slice_cmp-next, slice_cmp-padded}

-- ---- the order of two keys

unequal : (a b : ℕ) (o : Ordering) → MatchOrdering o (a < b) (a ≡ b) (b < a) → a ≢ b → o ≢ Equal
unequal a b Less h n e = cc
unequal a b Equal h n e = n h
unequal a b Greater h n e = cc

decided : (o p q : Ordering) → o ≡ p → o ≢ Equal → (p ≡ Equal) ⊎ (p ≡ q) → o ≡ q
decided o p q e n (inl f) = absurd (n (e ∙ f))
decided o p q e n (inr f) = e ∙ f

-- If the bytes before a place are the same, and the eight bytes from there on are different numbers, the numbers decide the order.
pub numbers_decide : (m h k : ℕ) (xs ys : List ℕ) → h < 2 ^ 64 → k < 2 ^ 64 → padded m xs ≡ padded m ys →
    eight_bytes h ≡ first_eight (drop m xs) → eight_bytes k ≡ first_eight (drop m ys) → h ≢ k → nat_cmp h k ≡ slice_cmp nat_cmp xs ys
unfolding first_eight
numbers_decide m h k xs ys low under same a b apart =
    decided (nat_cmp h k) (slice_cmp nat_cmp (first_eight (drop m xs)) (first_eight (drop m ys))) (slice_cmp nat_cmp xs ys)
    (sym (slice_cmp-eight_bytes h k low under) ∙ ap (λ zs. slice_cmp nat_cmp zs (eight_bytes k)) a ∙ ap (λ zs. slice_cmp nat_cmp (first_eight (drop m xs)) zs) b)
    (unequal h k (nat_cmp h k) (ranks h k) apart)
    (slice_cmp-next m 8 xs ys same)

-- ---- bytes followed by zeros

-- the first of these bytes
padded-first : (m n : ℕ) (xs : List ℕ) → m ≤ n → padded m (padded n xs) ≡ padded m xs
padded-first zero n xs few = refl
padded-first (suc m) zero xs few = absurd (omega arith)
padded-first (suc m) (suc n) [] few = ap (λ ys. 0 ∷ ys) (padded-first m n [] (omega arith))
padded-first (suc m) (suc n) (x ∷ xs) few = ap (λ ys. x ∷ ys) (padded-first m n xs (omega arith))

-- some of them after the first
padded-following : (m k n : ℕ) (xs : List ℕ) → m + k ≤ n → padded k (drop m (padded n xs)) ≡ padded k (drop m xs)
padded-following zero k n xs few = padded-first k n xs (omega arith)
padded-following (suc m) k zero xs few = absurd (omega arith)
padded-following (suc m) k (suc n) [] few = padded-following m k n [] (omega arith) ∙ ap (padded k) (drop-nil m)
padded-following (suc m) k (suc n) (x ∷ xs) few = padded-following m k n xs (omega arith)

-- the eight bytes from a place on
pub eight_of_padded : (place n : ℕ) (seen xs : List ℕ) → seen ≡ padded n xs → place + 8 ≤ n → first_eight (drop place seen) ≡ first_eight (drop place xs)
unfolding first_eight
eight_of_padded place n seen xs is few = ap (λ ys. padded 8 (drop place ys)) is ∙ padded-following place 8 n xs few

-- Where the bytes before a place are the same, and the eight from there on write different numbers, these decide the order of the first bytes.
pub first_decided : (m n h k : ℕ) (xs ys : List ℕ) → m + 8 ≤ n → h < 2 ^ 64 → k < 2 ^ 64 → padded m xs ≡ padded m ys →
    eight_bytes h ≡ first_eight (drop m xs) → eight_bytes k ≡ first_eight (drop m ys) → h ≢ k → nat_cmp h k ≡ slice_cmp nat_cmp (padded n xs) (padded n ys)
first_decided m n h k xs ys few low under same a b apart =
    numbers_decide m h k (padded n xs) (padded n ys) low under
    (padded-first m n xs (omega (arith, few)) ∙ same ∙ sym (padded-first m n ys (omega (arith, few))))
    (a ∙ sym (eight_of_padded m n (padded n xs) xs refl few)) (b ∙ sym (eight_of_padded m n (padded n ys) ys refl few)) apart

-- The order of the first bytes of two lists with zeros after them is that of the lists, where it isn't a tie.
pub padded_decided : (k m n : ℕ) (left right xs ys : List ℕ) (o : Ordering) → left ≡ padded m xs → right ≡ padded n ys → k ≤ m → k ≤ n →
    o ≡ slice_cmp nat_cmp (padded k left) (padded k right) → o ≢ Equal → o ≡ slice_cmp nat_cmp xs ys
padded_decided k m n left right xs ys o is other few less e apart =
    decided o (slice_cmp nat_cmp (padded k xs) (padded k ys)) (slice_cmp nat_cmp xs ys)
    (e ∙ ap (λ zs. slice_cmp nat_cmp zs (padded k right)) (ap (padded k) is ∙ padded-first k m xs few) ∙ ap (λ zs. slice_cmp nat_cmp (padded k xs) zs) (ap (padded k) other ∙ padded-first k n ys less))
    apart (slice_cmp-padded k xs ys)

-- Where it is one, the first bytes are the same.
pub padded_tied : (k m n : ℕ) (left right xs ys : List ℕ) (o : Ordering) → left ≡ padded m xs → right ≡ padded n ys → k ≤ m → k ≤ n →
    o ≡ slice_cmp nat_cmp (padded k left) (padded k right) → o ≡ Equal → padded k xs ≡ padded k ys
padded_tied k m n left right xs ys o is other few less e tie =
    sym (ap (padded k) is ∙ padded-first k m xs few) ∙ slice_cmp-IsAntisymmetric nat_cmp-IsAntisymmetric (padded k left) (padded k right) (sym e ∙ tie)
    ∙ ap (padded k) other ∙ padded-first k n ys less

-- fewer of the same bytes
pub padded-fewer : (m n : ℕ) (xs ys : List ℕ) → m ≤ n → padded n xs ≡ padded n ys → padded m xs ≡ padded m ys
padded-fewer m n xs ys few same = sym (padded-first m n xs few) ∙ ap (padded m) same ∙ padded-first m n ys few

-- bytes in two parts
pub padded-parts : (m n : ℕ) (xs : List ℕ) → padded (m + n) xs ≡ padded m xs ++ padded n (drop m xs)
padded-parts zero n xs = ap (λ k. padded k xs) (zero-add n)
padded-parts (suc m) n [] = ap (λ k. padded k []) (suc-add m n) ∙ ap (λ ys. 0 ∷ ys) (padded-parts m n [] ∙ ap (λ ys. padded m [] ++ padded n ys) (drop-nil m))
padded-parts (suc m) n (x ∷ xs) = ap (λ k. padded k (x ∷ xs)) (suc-add m n) ∙ ap (λ ys. x ∷ ys) (padded-parts m n xs)

-- the same eight bytes
pub first_same : (xs ys : List ℕ) → first_eight xs ≡ first_eight ys → padded 8 xs ≡ padded 8 ys
unfolding first_eight
first_same xs ys same = same

-- the same sixteen bytes
pub same_sixteen : (xs ys : List ℕ) → first_eight xs ≡ first_eight ys → first_eight (drop 8 xs) ≡ first_eight (drop 8 ys) → padded 16 xs ≡ padded 16 ys
unfolding first_eight
same_sixteen xs ys first next = padded-parts 8 8 xs ∙ ap (λ zs. zs ++ padded 8 (drop 8 xs)) first ∙ ap (λ zs. padded 8 ys ++ zs) next ∙ sym (padded-parts 8 8 ys)

pub same_fourteen : (xs ys : List ℕ) → padded 16 xs ≡ padded 16 ys → padded 14 xs ≡ padded 14 ys
same_fourteen xs ys same = padded-fewer 14 16 xs ys (lit≤ tt) same

-- the same fourteen bytes, and the same eight after them
pub all_same : (xs ys : List ℕ) → padded 14 xs ≡ padded 14 ys → first_eight (drop 14 xs) ≡ first_eight (drop 14 ys) → padded 22 xs ≡ padded 22 ys
unfolding first_eight
all_same xs ys first next = padded-parts 14 8 xs ∙ ap (λ zs. zs ++ padded 8 (drop 14 xs)) first ∙ ap (λ zs. padded 14 ys ++ zs) next ∙ sym (padded-parts 14 8 ys)

counted : (m n : ℕ) (o : Ordering) → MatchOrdering o (m < n) (m ≡ n) (n < m) → MatchOrdering o (suc m < suc n) (suc m ≡ suc n) (suc n < suc m)
counted m n Less h = omega arith
counted m n Equal h = omega arith
counted m n Greater h = omega arith

-- Lists that are the same when zeros follow them are ordered by their length.
pub lengths_decide : (n : ℕ) (xs ys : List ℕ) → length xs ≤ n → length ys ≤ n → padded n xs ≡ padded n ys → nat_cmp (length xs) (length ys) ≡ slice_cmp nat_cmp xs ys
lengths_decide n [] [] few less same = refl
lengths_decide zero (x ∷ xs) ys few less same = absurd (omega arith)
lengths_decide zero [] (y ∷ ys) few less same = absurd (omega arith)
lengths_decide (suc n) (x ∷ xs) [] few less same = sym (nat_cmp_is (length (x ∷ xs)) 0 Greater (omega arith))
lengths_decide (suc n) [] (y ∷ ys) few less same = sym (nat_cmp_is 0 (length (y ∷ ys)) Less (omega arith))
lengths_decide (suc n) (x ∷ xs) (y ∷ ys) few less same =
    let first : x ≡ y = cc in
    let rest : padded n xs ≡ padded n ys = cc in
    let tied : nat_cmp x y ≡ Equal = sym (nat_cmp_is x y Equal first) in
    let lengths : nat_cmp (length (x ∷ xs)) (length (y ∷ ys)) ≡ nat_cmp (length xs) (length ys) =
    sym (nat_cmp_is _ _ _ (counted (length xs) (length ys) (nat_cmp (length xs) (length ys)) (ranks (length xs) (length ys)))) in
    rw tied (lengths ∙ lengths_decide n xs ys (omega arith) (omega arith) rest)
