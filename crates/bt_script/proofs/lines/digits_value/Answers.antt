use Rattle.std.proofs.Common.{arith, ℕ, ◌<◌, ◌≤◌, ◌^◌}
use Rattle.std.proofs.Math.Nat.{pow-le-pow_right}
use Rattle.bt_script.proofs.lines.digits_value.Goals as goal

-- at most eight digits: below 10 ^ 8
below : (value i : ℕ) → value < 10 ^ i → i ≤ 8 → value < 10 ^ 8
below value i small few =
    let more : 10 ^ i ≤ 10 ^ 8 = pow-le-pow_right (omega arith) few in
    omega arith

pub overflow_mul-value : goal.overflow_mul-value
overflow_mul-value c =
    let small = below c.loop-digit.value c.loop-digit.digit-index c.loop-digit.invariant.small (omega arith) in
    omega arith

pub overflow_add-value : goal.overflow_add-value
overflow_add-value c =
    let small = below c.loop-digit.value c.loop-digit.digit-index c.loop-digit.invariant.small (omega arith) in
    omega (arith, c.type_inv.word c.loop-digit.digit-index)
