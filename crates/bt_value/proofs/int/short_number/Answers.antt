use Rattle.std.proofs.Common.{arith, ℕ, ◌≤◌, ◌≡◌, ◌==◌, List, true, false, refl, sym, drop, length, rules}
use Rattle.std.proofs.lemmas.Int.{to_z_pos}
use Rattle.std.proofs.lemmas.List.{drop_all}
use Rattle.std.specs.Int.{w64}
use Rattle.std.specs.List.{list_all}
use Rattle.bt_value.specs.Ints.{digits_after, is_digit, is_numeral, number_written}
use Rattle.bt_value.proofs.IntTexts.{below_power}
use Rattle.bt_value.proofs.int.short_number.Goals as goal

pub overflow_mul-number : goal.overflow_mul-number
overflow_mul-number c =
    let small = below_power c.loop-digit.number c.loop-digit.digit-index 17 c.loop-digit.invariant.small (omega arith) in
    omega arith

pub overflow_add-number : goal.overflow_add-number
overflow_add-number c =
    let small = below_power c.loop-digit.number c.loop-digit.digit-index 17 c.loop-digit.invariant.small (omega arith) in
    omega (arith, c.type_inv.digits c.loop-digit.digit-index)

pub overflow_cast-result : goal.overflow_cast-result
overflow_cast-result c =
    let small = below_power c.loop-digit.number c.loop-digit.digit-index 18 c.loop-digit.invariant.small (omega arith) in
    omega arith

-- all bytes were read: they are digits, and this is their number
is_written : (digits : List ℕ) (i number : ℕ) → length digits ≤ i → digits_after number (drop i digits) ≡ number_written digits → number ≡ number_written digits
is_written digits i number past rest = rw (drop_all i digits past) at rest

are_digits : (digits : List ℕ) (i : ℕ) → length digits ≤ i → list_all is_digit (drop i digits) ≡ list_all is_digit digits → list_all is_digit digits ≡ true
are_digits digits i past same = sym (rw (drop_all i digits past) at same)

numeral_of : (digits : List ℕ) → (length digits == 0) ≡ false → list_all is_digit digits ≡ true → is_numeral digits ≡ true
numeral_of digits some all = rw (some, all) refl

pub returns-clause-small : goal.returns-clause-small
returns-clause-small c =
    let small = below_power c.loop-digit.number c.loop-digit.digit-index 18 c.loop-digit.invariant.small (omega arith) in
    let written = is_written c.args.digits.now c.loop-digit.digit-index c.loop-digit.number c.loop-digit-test.false c.loop-digit.invariant.rest in
    λ numeral. omega (arith, written)

pub returns-clause-number : goal.returns-clause-number
returns-clause-number c =
    let small = below_power c.loop-digit.number c.loop-digit.digit-index 18 c.loop-digit.invariant.small (omega arith) in
    let written = is_written c.args.digits.now c.loop-digit.digit-index c.loop-digit.number c.loop-digit-test.false c.loop-digit.invariant.rest in
    let all = are_digits c.args.digits.now c.loop-digit.digit-index c.loop-digit-test.false c.loop-digit.invariant.digits in
    let some : (length c.args.digits.now == 0) ≡ false = search rules in
    let numeral = numeral_of c.args.digits.now some all in
    rw (to_z_pos w64 c.loop-digit.number (omega arith), numeral, written) refl
