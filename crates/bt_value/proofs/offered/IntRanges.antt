-- The ints that fields encode have 64 bits. Serves the ranges of values.
use Rattle.std.proofs.Common.{ℕ, zero, suc, ◌-◌, ◌^◌, ◌≤◌, ◌≡◌, ◌==◌, ◌&&◌, true, false, List, arith, drop, get_or, nat_le, Option, Some, None, IfSome, pos, neg_ℤ, refl, if◌then◌else◌}
use Rattle.std.proofs.lemmas.Bool.Decides.{nat_tests}
use Rattle.std.specs.Int.{w64}
use Rattle.std.specs.Prelude.{FitsSigned, option_map}
use Rattle.bt_value.specs.Ints.{int_of, is_numeral, number_up_to, number_written}

small : (digits : List ℕ) (most : ℕ) → (is_numeral digits && nat_le (number_written digits) most) ≡ true → number_written digits ≤ most
small digits most test = grind (arith, nat_tests)

number_within : (most : ℕ) (digits : List ℕ) → IfSome (number_up_to most digits) (λ n. n ≤ most)
number_within most digits =
    elim (is_numeral digits && nat_le (number_written digits) most) as (λ b. (is_numeral digits && nat_le (number_written digits) most) ≡ b
    → IfSome (if b then Some (number_written digits) else None) (λ n. n ≤ most)) [
      | true ↦ λ test. small digits most test
      | false ↦ λ test. tt
    ] refl

above : (o : Option ℕ) → IfSome o (λ n. n ≤ 2 ^ 63 - 1) → IfSome (option_map pos o) (FitsSigned w64)
above None h = tt
above (Some n) h = record { sfits = omega (arith, h) }

below : (o : Option ℕ) → IfSome o (λ n. n ≤ 2 ^ 63) → IfSome (option_map (λ n. neg_ℤ (pos n)) o) (FitsSigned w64)
below None h = tt
below (Some zero) h = record { sfits = omega arith }
below (Some (suc n)) h = record { sfits = omega (arith, h) }

pub int_in_range : (field : List ℕ) → IfSome (int_of field) (FitsSigned w64)
unfolding int_of
int_in_range field =
    elim (get_or field 0 0 == 45) as (λ b. IfSome (if b then option_map (λ n. neg_ℤ (pos n)) (number_up_to (2 ^ 63) (drop 1 field)) else option_map pos
    (number_up_to (2 ^ 63 - 1) field)) (FitsSigned w64)) [
      | true ↦ below (number_up_to (2 ^ 63) (drop 1 field)) (number_within (2 ^ 63) (drop 1 field))
      | false ↦ above (number_up_to (2 ^ 63 - 1) field) (number_within (2 ^ 63 - 1) field)
    ]
