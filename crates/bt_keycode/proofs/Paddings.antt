-- Lists and their first bytes with zeros after them. For the prefixes of keys.
use Rattle.std.proofs.Common.{◌≡◌, ℕ, zero, suc, ◌<◌, List, [], ◌∷◌, drop, get_or, refl, subst, sym, ◌⊎◌, inl, inr, arith}
use Rattle.std.specs.Cmp.{nat_cmp_is, ranks, tied_itself}
use Rattle.std.specs.Cmp.Lexicographic.{nat_list_cmp_total, slice_cmp}
use Rattle.std.specs.Ordering.{nat_cmp, ordering_then, MatchOrdering}
use Rattle.std.specs.declared.cmp.Ordering.{Ordering}
use Rattle.std.specs.declared.cmp.Ordering.TheVariants.{Less, Equal, Greater}
use Rattle.std.proofs.Math.Seq.{drop-nil}
use Rattle.bt_value.specs.Paddings.{padded}
use Rattle.bt_keycode.specs.Prefixes.{first_eight}

-- the eight places, written out
pub first_eight-places : (xs : List ℕ) → first_eight xs ≡
    get_or xs 0 0 ∷ get_or xs 1 0 ∷ get_or xs 2 0 ∷ get_or xs 3 0 ∷ get_or xs 4 0 ∷ get_or xs 5 0 ∷ get_or xs 6 0 ∷ get_or xs 7 0 ∷ []
unfolding first_eight
first_eight-places [] = refl
first_eight-places (a ∷ []) = refl
first_eight-places (a ∷ b ∷ []) = refl
first_eight-places (a ∷ b ∷ c ∷ []) = refl
first_eight-places (a ∷ b ∷ c ∷ d ∷ []) = refl
first_eight-places (a ∷ b ∷ c ∷ d ∷ e ∷ []) = refl
first_eight-places (a ∷ b ∷ c ∷ d ∷ e ∷ f ∷ []) = refl
first_eight-places (a ∷ b ∷ c ∷ d ∷ e ∷ f ∷ g ∷ []) = refl
first_eight-places (a ∷ b ∷ c ∷ d ∷ e ∷ f ∷ g ∷ h ∷ xs) = refl

abbrev pub AreSmall : List ℕ → Type 0
AreSmall [] = Unit {0}
AreSmall (x ∷ xs) = (x < 256) × AreSmall xs

pub are_small : (xs : List ℕ) → AreSmall xs → (i : ℕ) → get_or xs i 0 < 256
are_small [] h i = omega arith
are_small (x ∷ xs) h zero = h.0
are_small (x ∷ xs) h (suc i) = are_small xs h.1 i

-- a list compared with the empty list
past_none : (xs : List ℕ) (p : Ordering) → (p ≡ Equal) ⊎ (p ≡ slice_cmp nat_cmp xs []) → (p ≡ Equal) ⊎ (p ≡ Greater)
past_none [] p (inl e) = inl e
past_none [] p (inr e) = inl e
past_none (x ∷ xs) p h = h

none_before : (xs : List ℕ) (p : Ordering) → (p ≡ Equal) ⊎ (p ≡ slice_cmp nat_cmp [] xs) → (p ≡ Equal) ⊎ (p ≡ Less)
none_before [] p (inl e) = inl e
none_before [] p (inr e) = inl e
none_before (x ∷ xs) p h = h

-- a first byte compared with a zero of the padding
past_zero : (x : ℕ) (o p : Ordering) → MatchOrdering o (x < 0) (x ≡ 0) (0 < x) → (p ≡ Equal) ⊎ (p ≡ Greater) → (ordering_then o p ≡ Equal) ⊎ (ordering_then o p ≡ Greater)
past_zero x Less p h q = absurd (omega arith)
past_zero x Equal p h q = q
past_zero x Greater p h q = inr refl

zero_before : (x : ℕ) (o p : Ordering) → MatchOrdering o (0 < x) (0 ≡ x) (x < 0) → (p ≡ Equal) ⊎ (p ≡ Less) → (ordering_then o p ≡ Equal) ⊎ (ordering_then o p ≡ Less)
zero_before x Less p h q = inr refl
zero_before x Equal p h q = q
zero_before x Greater p h q = absurd (omega arith)

both_begin : (o p q : Ordering) → (p ≡ Equal) ⊎ (p ≡ q) → (ordering_then o p ≡ Equal) ⊎ (ordering_then o p ≡ ordering_then o q)
both_begin Less p q h = inr refl
both_begin Equal p q h = h
both_begin Greater p q h = inr refl

-- if the paddings differ, they decide the order
pub slice_cmp-padded : (n : ℕ) (xs ys : List ℕ) → (slice_cmp nat_cmp (padded n xs) (padded n ys) ≡ Equal) ⊎ (slice_cmp nat_cmp (padded n xs) (padded n ys) ≡ slice_cmp nat_cmp xs ys)
slice_cmp-padded zero xs ys = inl refl
slice_cmp-padded (suc n) [] [] = inl (tied_itself nat_list_cmp_total (padded (suc n) []))
slice_cmp-padded (suc n) (x ∷ xs) [] =
    past_zero x (nat_cmp x 0) (slice_cmp nat_cmp (padded n xs) (padded n [])) (ranks x 0) (past_none xs (slice_cmp nat_cmp (padded n xs) (padded n [])) (slice_cmp-padded n xs []))
slice_cmp-padded (suc n) [] (y ∷ ys) =
    zero_before y (nat_cmp 0 y) (slice_cmp nat_cmp (padded n []) (padded n ys)) (ranks 0 y) (none_before ys (slice_cmp nat_cmp (padded n []) (padded n ys)) (slice_cmp-padded n [] ys))
slice_cmp-padded (suc n) (x ∷ xs) (y ∷ ys) = both_begin (nat_cmp x y) (slice_cmp nat_cmp (padded n xs) (padded n ys)) (slice_cmp nat_cmp xs ys) (slice_cmp-padded n xs ys)

-- a first byte compared with an equal one
same_first : (x y : ℕ) (p q : Ordering) → x ≡ y → (p ≡ Equal) ⊎ (p ≡ q) → (p ≡ Equal) ⊎ (p ≡ ordering_then (nat_cmp x y) q)
same_first x y p q e h =
    let tied : nat_cmp x y ≡ Equal = sym (nat_cmp_is x y Equal e) in
    rw tied h

-- if the first paddings are equal, and those of the next bytes differ, the next ones decide the order
pub slice_cmp-next : (m n : ℕ) (xs ys : List ℕ) → padded m xs ≡ padded m ys →
    (slice_cmp nat_cmp (padded n (drop m xs)) (padded n (drop m ys)) ≡ Equal) ⊎ (slice_cmp nat_cmp (padded n (drop m xs)) (padded n (drop m ys)) ≡ slice_cmp nat_cmp xs ys)
slice_cmp-next zero n xs ys e = slice_cmp-padded n xs ys
slice_cmp-next (suc m) n [] [] e = slice_cmp-padded n [] []
slice_cmp-next (suc m) n (x ∷ xs) [] e =
    let rest : padded m xs ≡ padded m [] = cc in
    subst (λ zs. (slice_cmp nat_cmp (padded n (drop m xs)) (padded n zs) ≡ Equal) ⊎ (slice_cmp nat_cmp (padded n (drop m xs)) (padded n zs) ≡ Greater)) (drop-nil m)
    (past_none xs (slice_cmp nat_cmp (padded n (drop m xs)) (padded n (drop m []))) (slice_cmp-next m n xs [] rest))
slice_cmp-next (suc m) n [] (y ∷ ys) e =
    let rest : padded m [] ≡ padded m ys = cc in
    subst (λ zs. (slice_cmp nat_cmp (padded n zs) (padded n (drop m ys)) ≡ Equal) ⊎ (slice_cmp nat_cmp (padded n zs) (padded n (drop m ys)) ≡ Less)) (drop-nil m)
    (none_before ys (slice_cmp nat_cmp (padded n (drop m [])) (padded n (drop m ys))) (slice_cmp-next m n [] ys rest))
slice_cmp-next (suc m) n (x ∷ xs) (y ∷ ys) e =
    let first : x ≡ y = cc in
    let rest : padded m xs ≡ padded m ys = cc in
    same_first x y (slice_cmp nat_cmp (padded n (drop m xs)) (padded n (drop m ys))) (slice_cmp nat_cmp xs ys) first (slice_cmp-next m n xs ys rest)
