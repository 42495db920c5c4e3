-- How many digits a number has. Serves writing an int.
use Rattle.std.proofs.Common.{ℕ, zero, suc, ◌+◌, ◌*◌, ◌/◌, ◌%◌, ◌^◌, ◌<◌, ◌≤◌, ◌≡◌, ◌∷◌, [], ap, arith, length, length-append}
use Rattle.std.proofs.Math.Nat.{pow-succ'}
use Rattle.std.proofs.lemmas.Fmt.{decimal_digit, decimal_step}
use Rattle.std.specs.Fmt.{decimal}

pub digits_of_zero : length (decimal 0) ≡ 1
digits_of_zero = ap length (decimal_digit 0 (omega arith))

some_power : (k : ℕ) → 0 < 10 ^ k
some_power zero = omega arith
some_power (suc k) = omega (arith, some_power k, pow-succ' 10 k)

-- a number between two powers of ten
pub digits_between : (k n : ℕ) → 10 ^ k ≤ n → n < 10 * 10 ^ k → n < 2 ^ 64 → length (decimal n) ≡ k + 1
digits_between zero n low high small = ap length (decimal_digit n (omega arith))
digits_between (suc k) n low high small =
    let power : 10 ^ suc k ≡ 10 * 10 ^ k = pow-succ' 10 k in
    let fewer = digits_between k (n / 10) (omega (arith, power)) (omega (arith, power)) (omega arith) in
    let step = ap length (decimal_step n (omega (arith, power, some_power k)) small) in
    omega (arith, step, length-append (decimal (n / 10)) ((48 + n % 10) ∷ []), fewer)
