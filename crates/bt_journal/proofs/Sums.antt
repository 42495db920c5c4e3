-- The sum of a frame: other bytes, or another seed, give another sum.
use Rattle.std.proofs.Common.{◌≡◌, ℕ, ◌+◌, ◌*◌, ◌%◌, ◌^◌, ◌<◌, List, [], ◌∷◌, ◌++◌, length, refl, sym, ◌∙◌, ap, arith, length-append}
use Rattle.std.proofs.Math.Nat.{mul_assoc}
use Rattle.std.proofs.lemmas.Nat.{mul-mod_first, mul-mod_second}
use Rattle.std.specs.Int.{w64, to_le_bytes}
use Rattle.bt_journal.specs.Frames.{mixed, sum_from, check_of, frame_size}
use Rattle.bt_journal.proofs.FrontFrames.{mixed_lt, sum_lt}

-- the factor of the sum has an inverse
undone : (sum : ℕ) → sum < 2 ^ 64 → ((sum * 6364136223846793005) % 2 ^ 64 * 13877824140714322085) % 2 ^ 64 ≡ sum
undone sum lt =
    let one : (6364136223846793005 * 13877824140714322085) % 2 ^ 64 ≡ 1 = refl in
    mul-mod_first (sum * 6364136223846793005) 13877824140714322085 (2 ^ 64)
    ∙ ap (λ (n : ℕ). n % 2 ^ 64) (mul_assoc sum 6364136223846793005 13877824140714322085)
    ∙ sym (mul-mod_second sum (6364136223846793005 * 13877824140714322085) (2 ^ 64))
    ∙ ap (λ (n : ℕ). (sum * n) % 2 ^ 64) one
    ∙ omega (arith, lt)

same_low : (x y byte : ℕ) → x < 2 ^ 64 → y < 2 ^ 64 → (x + (byte + 1)) % 2 ^ 64 ≡ (y + (byte + 1)) % 2 ^ 64 → x ≡ y
same_low x y byte lx ly e = omega arith

same_high : (x a b : ℕ) → a < 256 → b < 256 → (x + (a + 1)) % 2 ^ 64 ≡ (x + (b + 1)) % 2 ^ 64 → a ≡ b
same_high x a b la lb e = omega arith

same_sum : (s t byte : ℕ) → s < 2 ^ 64 → t < 2 ^ 64 → mixed s byte ≡ mixed t byte → s ≡ t
unfolding mixed
same_sum s t byte ls lt e =
    let low = same_low ((s * 6364136223846793005) % 2 ^ 64) ((t * 6364136223846793005) % 2 ^ 64) byte (omega arith) (omega arith) e in
    sym (undone s ls) ∙ ap (λ (n : ℕ). (n * 13877824140714322085) % 2 ^ 64) low ∙ undone t lt

same_byte : (s a b : ℕ) → a < 256 → b < 256 → mixed s a ≡ mixed s b → a ≡ b
unfolding mixed
same_byte s a b la lb e = same_high ((s * 6364136223846793005) % 2 ^ 64) a b la lb e

-- the same bytes lead to the same sum only from the same one
sum_back : (s t : ℕ) (bytes : List ℕ) → s < 2 ^ 64 → t < 2 ^ 64 → sum_from s bytes ≡ sum_from t bytes → s ≡ t
unfolding sum_from
sum_back s t [] ls lt e = e
sum_back s t (b ∷ bytes) ls lt e = same_sum s t b ls lt (sum_back (mixed s b) (mixed t b) bytes (mixed_lt s b) (mixed_lt t b) e)

one_byte : (seed : ℕ) (front back : List ℕ) (a b : ℕ) → a < 256 → b < 256 → sum_from seed (front ++ a ∷ back) ≡ sum_from seed (front ++ b ∷ back) → a ≡ b
unfolding sum_from
one_byte seed [] back a b la lb e = same_byte seed a b la lb (sum_back (mixed seed a) (mixed seed b) back (mixed_lt seed a) (mixed_lt seed b) e)
one_byte seed (x ∷ front) back a b la lb e = one_byte (mixed seed x) front back a b la lb e

pub same_length : (front back : List ℕ) (a b : ℕ) → length (front ++ a ∷ back) ≡ length (front ++ b ∷ back)
same_length front back a b = omega (arith, length-append front (a ∷ back), length-append front (b ∷ back))

-- payloads that differ in one byte have other sums
pub one_check : (seed : ℕ) (front back : List ℕ) (a b : ℕ) → a < 256 → b < 256 → check_of seed (front ++ a ∷ back) ≡ check_of seed (front ++ b ∷ back) → a ≡ b
unfolding check_of
one_check seed front back a b la lb e =
    let size = ap (λ (n : ℕ). 16 + n) (same_length front back a b) in
    let from = sum_from seed (to_le_bytes w64 (frame_size (front ++ a ∷ back))) in
    one_byte from front back a b la lb (e ∙ ap (λ (n : ℕ). sum_from (sum_from seed (to_le_bytes w64 n)) (front ++ b ∷ back)) (sym size))

-- a payload has the same sum only with the same seed
pub one_seed : (seed other : ℕ) (payload : List ℕ) → seed < 2 ^ 64 → other < 2 ^ 64 → check_of seed payload ≡ check_of other payload → seed ≡ other
unfolding check_of
one_seed seed other payload ls lo e =
    let size = to_le_bytes w64 (frame_size payload) in
    sum_back seed other size ls lo (sum_back (sum_from seed size) (sum_from other size) payload (sum_lt seed size ls) (sum_lt other size lo) e)
