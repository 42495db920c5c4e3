-- The ints that std's `parse` reads, and those of a few digits, are those that fields encode. Serves reading an int.
use Rattle.std.proofs.Common.{◌-◌, ℕ, ℤ, List, [], ◌∷◌, ◌<◌, ◌≤◌, ◌^◌, ◌≡◌, ◌≢◌, ◌∙◌, refl, sym, true, false, ◌==◌, ◌&&◌, length, drop, get_or}
use Rattle.std.proofs.Common.{pos, neg_ℤ, Some, None, Result, Ok, Err, arith, rules, inl, inr, nat_le, eq-eqb, ap, if◌then◌else◌}
use Rattle.std.proofs.lemmas.Bool.{cases_Bool, eqb-true}
use Rattle.std.proofs.lemmas.Bool.Decides.{nat_tests}
use Rattle.std.proofs.lemmas.Str.Parse.{IsNumeralModel, numerals_by_fold, parse_signed_minus, parse_signed_plain}
use Rattle.std.specs.List.{list_all}
use Rattle.std.specs.Int.{w64}
use Rattle.std.specs.Prelude.{option_map}
use Rattle.std.specs.Result.{OkIff, result_ok}
use Rattle.std.specs.Str.{IsAscii}
use Rattle.std.specs.Prelude.{IsUtf8}
use Rattle.std.proofs.lemmas.Fmt.{IsAscii-from_digits}
use Rattle.std.proofs.lemmas.Result.{Ok-from_Ok_iff}
use Rattle.std.proofs.lemmas.Str.{IsUtf8-from_ascii}
use Rattle.std.proofs.Math.Nat.{pow-le-pow_right}
use Rattle.std.proofs.lemmas.Str.Ascii.{IsAscii-cons}
use mathlib.Core.Bool.{true≢false}
use Rattle.std.specs.Str.Parse.{ParsesSigned}
use Rattle.bt_value.specs.Ints.{digits_after, int_of, is_digit, is_numeral, number_up_to, number_written}

-- this crate's definitions of digits and of their number are those of std
pub own : IsNumeralModel (λ ds. list_all is_digit ds ≡ true) number_written
own = numerals_by_fold _ (search rules) digits_after (search rules)

-- the tests of `number_up_to` are the facts that `parse` states
test_true : (ds : List ℕ) (most : ℕ) → list_all is_digit ds ≡ true → 0 < length ds → number_written ds ≤ most → (is_numeral ds && nat_le (number_written ds) most) ≡ true
test_true ds most all some small = grind (arith, nat_tests)

facts_all : (ds : List ℕ) (most : ℕ) → (is_numeral ds && nat_le (number_written ds) most) ≡ true → list_all is_digit ds ≡ true
facts_all ds most test = grind (arith, nat_tests)

facts_some : (ds : List ℕ) (most : ℕ) → (is_numeral ds && nat_le (number_written ds) most) ≡ true → 0 < length ds
facts_some ds most test = grind (arith, nat_tests)

facts_small : (ds : List ℕ) (most : ℕ) → (is_numeral ds && nat_le (number_written ds) most) ≡ true → number_written ds ≤ most
facts_small ds most test = grind (arith, nat_tests)

number_some : (ds : List ℕ) (most : ℕ) → (is_numeral ds && nat_le (number_written ds) most) ≡ true → number_up_to most ds ≡ Some (number_written ds)
number_some ds most test = rw test refl

number_none : (ds : List ℕ) (most : ℕ) → (is_numeral ds && nat_le (number_written ds) most) ≡ false → number_up_to most ds ≡ None
number_none ds most test = rw test refl

-- by those facts the result of `parse` is that of `number_up_to`
read : {E : Type 0} (r : Result ℤ E) (ds : List ℕ) (most : ℕ) (signed : ℕ → ℤ)
    → OkIff r ((list_all is_digit ds ≡ true) × (0 < length ds) × (number_written ds ≤ most)) (signed (number_written ds))
    → result_ok r ≡ option_map signed (number_up_to most ds)
read r ds most signed parsed = elim (cases_Bool (is_numeral ds && nat_le (number_written ds) most)) [
  | inl test ↦
      let facts : (list_all is_digit ds ≡ true) × (0 < length ds) × (number_written ds ≤ most) = (facts_all ds most test, facts_some ds most test, facts_small ds most test) in
      ap result_ok (Ok-from_Ok_iff r _ (signed (number_written ds)) parsed facts) ∙ sym (ap (option_map signed) (number_some ds most test))
  | inr test ↦ read_none r ds most signed parsed test
]
  where
    read_none : {E : Type 0} (r : Result ℤ E) (ds : List ℕ) (most : ℕ) (signed : ℕ → ℤ)
        → OkIff r ((list_all is_digit ds ≡ true) × (0 < length ds) × (number_written ds ≤ most)) (signed (number_written ds))
        → (is_numeral ds && nat_le (number_written ds) most) ≡ false → result_ok r ≡ option_map signed (number_up_to most ds)
    read_none (Ok n) ds most signed parsed test =
        let passes : (is_numeral ds && nat_le (number_written ds) most) ≡ true = test_true ds most parsed.0.0 parsed.0.1 parsed.0.2 in
        absurd (true≢false (sym passes ∙ test))
    read_none (Err e) ds most signed parsed test = sym (ap (option_map signed) (number_none ds most test))

below : {E : Type 0} (r : Result ℤ E) (P Q : Type 0) (v : ℤ) → (P → Q) → (Q → P) → OkIff r P v → OkIff r Q v
below (Ok n) P Q v to from h = (to h.0, h.1)
below (Err e) P Q v to from h = λ q. h (from q)

pub read_minus : {E : Type 0} (field : List ℕ) (r : Result ℤ E) → ParsesSigned w64 10 field r → get_or field 0 0 ≡ 45 → result_ok r ≡ int_of field
unfolding int_of
read_minus field r parsed minus =
    rw (eq-eqb (get_or field 0 0) 45 minus) (read r (drop 1 field) (2 ^ 63) (λ n. neg_ℤ (pos n)) (parse_signed_minus own w64 field r parsed minus))

pub read_plain : {E : Type 0} (field : List ℕ) (r : Result ℤ E) → ParsesSigned w64 10 field r → get_or field 0 0 ≢ 43 → (get_or field 0 0 == 45) ≡ false → result_ok r ≡ int_of field
unfolding int_of
read_plain field r parsed plus other =
    let minus : get_or field 0 0 ≢ 45 = grind (arith, nat_tests) in
    rw other (read r field (2 ^ 63 - 1) pos
    (below r _ _ (pos (number_written field)) (λ h. (h.0, h.1, omega (arith, h.2))) (λ h. (h.0, h.1, omega (arith, h.2)))
    (parse_signed_plain own w64 field r parsed plus minus)))

-- what `parse` reads if there is no plus first
pub read_signed : {E : Type 0} (field : List ℕ) (r : Result ℤ E) → ParsesSigned w64 10 field r → get_or field 0 0 ≢ 43 → result_ok r ≡ int_of field
read_signed field r parsed plus = elim (cases_Bool (get_or field 0 0 == 45)) [
  | inl minus ↦ read_minus field r parsed (eqb-true (get_or field 0 0) 45 minus)
  | inr other ↦ read_plain field r parsed plus other
]

no_first : (b : ℕ) (bs : List ℕ) → is_digit b ≡ false → (is_numeral (b ∷ bs) && nat_le (number_written (b ∷ bs)) (2 ^ 63 - 1)) ≡ false
no_first b bs no_digit = rw no_digit (grind (arith, nat_tests))

-- a field that begins with a plus encodes no int
pub plus_none : (field : List ℕ) → get_or field 0 0 ≡ 43 → int_of field ≡ None
unfolding int_of
plus_none [] plus = absurd (omega arith)
plus_none (b ∷ bs) plus =
    let other : (b == 45) ≡ false = grind (arith, nat_tests) in
    let no_digit : is_digit b ≡ false = grind (arith, nat_tests) in
    let no_number : (is_numeral (b ∷ bs) && nat_le (number_written (b ∷ bs)) (2 ^ 63 - 1)) ≡ false = no_first b bs no_digit in
    rw other (ap (option_map pos) (number_none (b ∷ bs) (2 ^ 63 - 1) no_number))

-- a field that encodes an int is ASCII
pub int_utf8 : (field : List ℕ) → ¬ (IsUtf8 field) → int_of field ≡ None
unfolding int_of
int_utf8 [] broken = refl
int_utf8 (b ∷ bs) broken = elim (cases_Bool (b == 45)) [
  | inl minus ↦ elim (cases_Bool (is_numeral bs && nat_le (number_written bs) (2 ^ 63))) [
    | inl test ↦
        let ascii : IsAscii bs = IsAscii-from_digits bs (own.to bs (facts_all bs (2 ^ 63) test)) in
        absurd (broken (IsUtf8-from_ascii (b ∷ bs) (IsAscii-cons b bs (omega (arith, eqb-true b 45 minus)) ascii)))
    | inr test ↦ rw minus (ap (option_map (λ n. neg_ℤ (pos n))) (number_none bs (2 ^ 63) test))
  ]
  | inr other ↦ elim (cases_Bool (is_numeral (b ∷ bs) && nat_le (number_written (b ∷ bs)) (2 ^ 63 - 1))) [
    | inl test ↦ absurd (broken (IsUtf8-from_ascii (b ∷ bs) (IsAscii-from_digits (b ∷ bs) (own.to (b ∷ bs) (facts_all (b ∷ bs) (2 ^ 63 - 1) test)))))
    | inr test ↦ rw other (ap (option_map pos) (number_none (b ∷ bs) (2 ^ 63 - 1) test))
  ]
]

-- if digits write a number that fits, the limit makes no difference
number_fits : (ds : List ℕ) (most : ℕ) → (is_numeral ds ≡ true → number_written ds ≤ most) → number_up_to most ds ≡ (if is_numeral ds then Some (number_written ds) else None)
number_fits ds most fits = elim (cases_Bool (is_numeral ds)) [
  | inl numeral ↦ let small : nat_le (number_written ds) most ≡ true = let within = fits numeral in grind (arith, nat_tests) in rw (numeral, small) refl
  | inr other ↦ rw other refl
]

-- the int that is found if digits follow a minus
pub minus_short : (field digits : List ℕ) → field ≡ 45 ∷ digits → (is_numeral digits ≡ true → number_written digits ≤ 2 ^ 63 - 1)
    → int_of field ≡ (if is_numeral digits then Some (neg_ℤ (pos (number_written digits))) else None)
unfolding int_of
minus_short field digits is fits =
    rw (is, number_fits digits (2 ^ 63) (λ n. omega (arith, fits n)))
    (elim (is_numeral digits) as (λ b. option_map (λ n. neg_ℤ (pos n)) (if b then Some (number_written digits) else None)
    ≡ (if b then Some (neg_ℤ (pos (number_written digits))) else None)) [ true ↦ refl | false ↦ refl ])

-- the int that is found if there is no minus first
pub plain_short : (field : List ℕ) → (get_or field 0 0 == 45) ≡ false → (is_numeral field ≡ true → number_written field ≤ 2 ^ 63 - 1)
    → int_of field ≡ (if is_numeral field then Some (pos (number_written field)) else None)
unfolding int_of
plain_short field other fits =
    rw (other, number_fits field (2 ^ 63 - 1) fits)
    (elim (is_numeral field) as (λ b. option_map pos (if b then Some (number_written field) else None) ≡ (if b then Some (pos (number_written field)) else None)) [ true ↦ refl | false ↦ refl ])

-- ---- a few digits

-- a number of at most this many digits is below this power of ten
pub below_power : (number i most : ℕ) → number < 10 ^ i → i ≤ most → number < 10 ^ most
below_power number i most small few =
    let more : 10 ^ i ≤ 10 ^ most = pow-le-pow_right (omega arith) few in
    omega arith
