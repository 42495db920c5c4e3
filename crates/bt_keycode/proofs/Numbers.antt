-- The order of numbers is that of their bytes. For the codes of ints and the prefixes of keys.
use Rattle.std.proofs.Common.{◌≡◌, ℕ, zero, suc, ◌+◌, ◌*◌, ◌/◌, ◌%◌, ◌^◌, ◌<◌, ◌≤◌, refl, sym, ap, ◌∙◌, arith}
use Rattle.std.specs.Cmp.{nat_cmp_is, ranks}
use Rattle.std.specs.Cmp.Lexicographic.{slice_cmp}
use Rattle.std.specs.Int.{byte_at, bytes_high_first}
use Rattle.std.specs.Ordering.{nat_cmp, ordering_then, MatchOrdering}
use Rattle.std.specs.declared.cmp.Ordering.{Ordering}
use Rattle.std.specs.declared.cmp.Ordering.TheVariants.{Less, Equal, Greater}
use Rattle.std.proofs.Math.Arith.{mod-mul}
use Rattle.std.proofs.Math.Nat.{pow-succ', mul-le-mul_right}
use Rattle.bt_keycode.specs.Codes.{eight_bytes}

-- numbers of two digits in a base: the first digits decide the order; if they are equal, the second ones do
two_digits : (base a b c d : ℕ) → b < base → d < base → (o p : Ordering) →
    MatchOrdering o (a < c) (a ≡ c) (c < a) → MatchOrdering p (b < d) (b ≡ d) (d < b) →
    MatchOrdering (ordering_then o p) (a * base + b < c * base + d) (a * base + b ≡ c * base + d) (c * base + d < a * base + b)
two_digits base a b c d below under Less p h k = let more : suc a * base ≤ c * base = mul-le-mul_right base h in omega arith
two_digits base a b c d below under Greater p h k = let more : suc c * base ≤ a * base = mul-le-mul_right base h in omega arith
two_digits base a b c d below under Equal Less h k = let same : a * base ≡ c * base = ap (λ n. n * base) h in omega arith
two_digits base a b c d below under Equal Equal h k = let same : a * base ≡ c * base = ap (λ n. n * base) h in omega arith
two_digits base a b c d below under Equal Greater h k = let same : a * base ≡ c * base = ap (λ n. n * base) h in omega arith

nat_cmp-digits : (base a b c d : ℕ) → b < base → d < base → ordering_then (nat_cmp a c) (nat_cmp b d) ≡ nat_cmp (a * base + b) (c * base + d)
nat_cmp-digits base a b c d below under =
    nat_cmp_is (a * base + b) (c * base + d) _ (two_digits base a b c d below under (nat_cmp a c) (nat_cmp b d) (ranks a c) (ranks b d))

positive : (k : ℕ) → 0 < 256 ^ k
positive zero = omega arith
positive (suc k) = let more = positive k in let e = pow-succ' 256 k in omega arith

byte_at-is : (k n : ℕ) → byte_at k n ≡ n / 256 ^ k % 256
byte_at-is zero n = omega arith
byte_at-is (suc k) n = refl

split : (k n : ℕ) → n % 256 ^ suc k ≡ byte_at k n * 256 ^ k + n % 256 ^ k
split k n =
    let up : 0 < 256 = omega arith in
    let small : 0 < 256 ^ k = positive k in
    ap (λ m. n % m) (pow-succ' 256 k) ∙ mod-mul n up small ∙ ap (λ b. b * 256 ^ k + n % 256 ^ k) (sym (byte_at-is k n))

slice_cmp-bytes : (k m n : ℕ) → slice_cmp nat_cmp (bytes_high_first k m) (bytes_high_first k n) ≡ nat_cmp (m % 256 ^ k) (n % 256 ^ k)
slice_cmp-bytes zero m n =
    let one : m % 256 ^ 0 ≡ 0 = omega arith in
    let two : n % 256 ^ 0 ≡ 0 = omega arith in
    sym (ap (λ x. nat_cmp x (n % 256 ^ 0)) one ∙ ap (λ x. nat_cmp 0 x) two)
slice_cmp-bytes (suc k) m n =
    let up = positive k in
    let low : m % 256 ^ k < 256 ^ k = omega arith in
    let under : n % 256 ^ k < 256 ^ k = omega arith in
    ap (ordering_then (nat_cmp (byte_at k m) (byte_at k n))) (slice_cmp-bytes k m n)
    ∙ nat_cmp-digits (256 ^ k) (byte_at k m) (m % 256 ^ k) (byte_at k n) (n % 256 ^ k) low under
    ∙ ap (λ x. nat_cmp x (byte_at k n * 256 ^ k + n % 256 ^ k)) (sym (split k m)) ∙ ap (λ x. nat_cmp (m % 256 ^ suc k) x) (sym (split k n))

pub slice_cmp-eight_bytes : (m n : ℕ) → m < 2 ^ 64 → n < 2 ^ 64 → slice_cmp nat_cmp (eight_bytes m) (eight_bytes n) ≡ nat_cmp m n
unfolding eight_bytes
slice_cmp-eight_bytes m n low under =
    let one : m % 256 ^ 8 ≡ m = omega arith in
    let two : n % 256 ^ 8 ≡ n = omega arith in
    slice_cmp-bytes 8 m n ∙ ap (λ x. nat_cmp x (n % 256 ^ 8)) one ∙ ap (λ x. nat_cmp m x) two
