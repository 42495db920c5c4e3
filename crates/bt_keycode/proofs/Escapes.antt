-- Bytes with their zero bytes escaped: their order, and that only one list of bytes has them. For the order of codes.
use Rattle.std.proofs.Common.{◌≡◌, ℕ, zero, suc, ◌<◌, List, [], ◌∷◌, ◌++◌, append_assoc, refl, sym, ap, ◌∙◌, arith, ◌==◌, false, nat_eq}
use Rattle.std.proofs.lemmas.Bool.Decides.{nat_tests}
use Rattle.std.specs.Cmp.{nat_cmp_is}
use Rattle.std.specs.Cmp.Lexicographic.{slice_cmp}
use Rattle.std.specs.Ordering.{nat_cmp, ordering_then}
use Rattle.std.specs.declared.cmp.Ordering.{Ordering}
use Rattle.std.specs.declared.cmp.Ordering.TheVariants.{Less, Equal, Greater}
use Rattle.std.specs.List.{list_any}
use Rattle.bt_keycode.specs.Codes.{escaped}

-- ---- the order of orders

pub then_assoc : (o p q : Ordering) → ordering_then o (ordering_then p q) ≡ ordering_then (ordering_then o p) q
then_assoc Less p q = refl
then_assoc Equal p q = refl
then_assoc Greater p q = refl

pub then_equal : (o : Ordering) → ordering_then o Equal ≡ o
then_equal Less = refl
then_equal Equal = refl
then_equal Greater = refl

-- ---- escaped bytes

not_zero : (n : ℕ) → (suc n == 0) ≡ false
not_zero n = grind (arith, nat_tests)

pub escaped-kept : (n : ℕ) (bs : List ℕ) → escaped (suc n ∷ bs) ≡ suc n ∷ escaped bs
escaped-kept n bs = rw (not_zero n) refl

-- the first byte, and the others
pub escaped-first : (b : ℕ) (bs : List ℕ) → escaped (b ∷ bs) ≡ escaped (b ∷ []) ++ escaped bs
escaped-first zero bs = refl
escaped-first (suc n) bs = escaped-kept n bs ∙ sym (ap (λ cs. cs ++ escaped bs) (escaped-kept n []))

zero_first : (n : ℕ) → nat_cmp 0 (suc n) ≡ Less
zero_first n = let less : 0 < suc n = omega arith in sym (nat_cmp_is 0 (suc n) Less less)

zero_last : (n : ℕ) → nat_cmp (suc n) 0 ≡ Greater
zero_last n = let more : 0 < suc n = omega arith in sym (nat_cmp_is (suc n) 0 Greater more)

-- escaped bytes and their end, followed by more bytes: the escaped bytes decide the order; if they are equal, the bytes after them do
pub escaped_compare : (a b xs ys : List ℕ) →
    slice_cmp nat_cmp (escaped a ++ 0 ∷ 1 ∷ xs) (escaped b ++ 0 ∷ 1 ∷ ys) ≡ ordering_then (slice_cmp nat_cmp a b) (slice_cmp nat_cmp xs ys)
escaped_compare [] [] xs ys = refl
escaped_compare [] (zero ∷ ns) xs ys = refl
escaped_compare [] (suc n ∷ ns) xs ys =
    ap (λ cs. slice_cmp nat_cmp (0 ∷ 1 ∷ xs) (cs ++ 0 ∷ 1 ∷ ys)) (escaped-kept n ns)
    ∙ ap (λ o. ordering_then o (slice_cmp nat_cmp (1 ∷ xs) (escaped ns ++ 0 ∷ 1 ∷ ys))) (zero_first n)
escaped_compare (zero ∷ ms) [] xs ys = refl
escaped_compare (suc m ∷ ms) [] xs ys =
    ap (λ cs. slice_cmp nat_cmp (cs ++ 0 ∷ 1 ∷ xs) (0 ∷ 1 ∷ ys)) (escaped-kept m ms)
    ∙ ap (λ o. ordering_then o (slice_cmp nat_cmp (escaped ms ++ 0 ∷ 1 ∷ xs) (1 ∷ ys))) (zero_last m)
escaped_compare (zero ∷ ms) (zero ∷ ns) xs ys = escaped_compare ms ns xs ys
escaped_compare (zero ∷ ms) (suc n ∷ ns) xs ys =
    ap (λ cs. slice_cmp nat_cmp (0 ∷ 255 ∷ escaped ms ++ 0 ∷ 1 ∷ xs) (cs ++ 0 ∷ 1 ∷ ys)) (escaped-kept n ns)
    ∙ ap (λ o. ordering_then o (slice_cmp nat_cmp (255 ∷ escaped ms ++ 0 ∷ 1 ∷ xs) (escaped ns ++ 0 ∷ 1 ∷ ys))) (zero_first n)
    ∙ sym (ap (λ o. ordering_then (ordering_then o (slice_cmp nat_cmp ms ns)) (slice_cmp nat_cmp xs ys)) (zero_first n))
escaped_compare (suc m ∷ ms) (zero ∷ ns) xs ys =
    ap (λ cs. slice_cmp nat_cmp (cs ++ 0 ∷ 1 ∷ xs) (0 ∷ 255 ∷ escaped ns ++ 0 ∷ 1 ∷ ys)) (escaped-kept m ms)
    ∙ ap (λ o. ordering_then o (slice_cmp nat_cmp (escaped ms ++ 0 ∷ 1 ∷ xs) (255 ∷ escaped ns ++ 0 ∷ 1 ∷ ys))) (zero_last m)
    ∙ sym (ap (λ o. ordering_then (ordering_then o (slice_cmp nat_cmp ms ns)) (slice_cmp nat_cmp xs ys)) (zero_last m))
escaped_compare (suc m ∷ ms) (suc n ∷ ns) xs ys =
    ap (λ cs. slice_cmp nat_cmp (cs ++ 0 ∷ 1 ∷ xs) (escaped (suc n ∷ ns) ++ 0 ∷ 1 ∷ ys)) (escaped-kept m ms)
    ∙ ap (λ cs. slice_cmp nat_cmp (suc m ∷ escaped ms ++ 0 ∷ 1 ∷ xs) (cs ++ 0 ∷ 1 ∷ ys)) (escaped-kept n ns)
    ∙ ap (ordering_then (nat_cmp (suc m) (suc n))) (escaped_compare ms ns xs ys)
    ∙ then_assoc (nat_cmp (suc m) (suc n)) (slice_cmp nat_cmp ms ns) (slice_cmp nat_cmp xs ys)

-- escaped bytes, their end and the bytes after it determine the list of bytes
pub escaped_unique : (a b xs ys : List ℕ) → escaped a ++ 0 ∷ 1 ∷ xs ≡ escaped b ++ 0 ∷ 1 ∷ ys → (a ≡ b) × (xs ≡ ys)
escaped_unique [] [] xs ys e = (refl, cc)
escaped_unique [] (zero ∷ ns) xs ys e = cc
escaped_unique [] (suc n ∷ ns) xs ys e = let kept = escaped-kept n ns in cc
escaped_unique (zero ∷ ms) [] xs ys e = cc
escaped_unique (suc m ∷ ms) [] xs ys e = let kept = escaped-kept m ms in cc
escaped_unique (zero ∷ ms) (zero ∷ ns) xs ys e =
    let rest : escaped ms ++ 0 ∷ 1 ∷ xs ≡ escaped ns ++ 0 ∷ 1 ∷ ys = cc in
    let both = escaped_unique ms ns xs ys rest in
    (ap (λ cs. 0 ∷ cs) both.0, both.1)
escaped_unique (zero ∷ ms) (suc n ∷ ns) xs ys e = let kept = escaped-kept n ns in cc
escaped_unique (suc m ∷ ms) (zero ∷ ns) xs ys e = let kept = escaped-kept m ms in cc
escaped_unique (suc m ∷ ms) (suc n ∷ ns) xs ys e =
    let all : suc m ∷ escaped ms ++ 0 ∷ 1 ∷ xs ≡ suc n ∷ escaped ns ++ 0 ∷ 1 ∷ ys =
    sym (ap (λ cs. cs ++ 0 ∷ 1 ∷ xs) (escaped-kept m ms)) ∙ e ∙ ap (λ cs. cs ++ 0 ∷ 1 ∷ ys) (escaped-kept n ns) in
    let first : suc m ≡ suc n = cc in
    let rest : escaped ms ++ 0 ∷ 1 ∷ xs ≡ escaped ns ++ 0 ∷ 1 ∷ ys = cc in
    let both = escaped_unique ms ns xs ys rest in
    (ap (λ k. k ∷ ms) first ∙ ap (λ cs. suc n ∷ cs) both.0, both.1)

-- bytes without a zero byte are unchanged
pub escaped_no_zero : (plain : List ℕ) → list_any (λ b. nat_eq b 0) plain ≡ false → escaped plain ≡ plain
escaped_no_zero [] none = refl
escaped_no_zero (zero ∷ bs) none = cc
escaped_no_zero (suc b ∷ bs) none = escaped-kept b bs ∙ ap (λ cs. suc b ∷ cs) (escaped_no_zero bs (rw (not_zero b) at none))

-- two lists of bytes, one after the other
escaped_append : (plain more : List ℕ) → escaped (plain ++ more) ≡ escaped plain ++ escaped more
escaped_append [] more = refl
escaped_append (b ∷ bs) more =
    escaped-first b (bs ++ more) ∙ ap (λ cs. escaped (b ∷ []) ++ cs) (escaped_append bs more)
    ∙ sym (append_assoc (escaped (b ∷ [])) (escaped bs) (escaped more)) ∙ ap (λ cs. cs ++ escaped more) (sym (escaped-first b bs))

-- the bytes before the first zero byte, and those after it
pub escaped_parts : (plain part following : List ℕ) → plain ≡ part ++ 0 ∷ following → list_any (λ b. nat_eq b 0) part ≡ false → escaped plain ≡ part ++ (0 ∷ 255 ∷ escaped following)
escaped_parts plain part following whole none =
    ap escaped whole ∙ escaped_append part (0 ∷ following) ∙ ap (λ cs. cs ++ (0 ∷ 255 ∷ escaped following)) (escaped_no_zero part none)
