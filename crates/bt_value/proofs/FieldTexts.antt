-- Fields that need no quotes: ints and hexadecimal digits. Serves writing a field.
use Rattle.std.proofs.Common.{ℕ, ℤ, pos, negsuc, List, [], ◌∷◌, ◌+◌, ◌^◌, ◌<◌, ◌≤◌, ◌≡◌, refl, false, arith, suc, Bool, true, if◌then◌else◌, nat_lt, ◌/◌, ◌%◌}
use Rattle.std.proofs.lemmas.Bool.Decides.{nat_tests}
use Rattle.std.proofs.lemmas.Fmt.{decimal_is_IsNumeral}
use Rattle.std.proofs.lemmas.Str.Parse.{digit_from_value}
use Rattle.std.specs.Fmt.{decimal, signed_decimal}
use Rattle.std.specs.Str.Parse.{AllDigits}
use Rattle.csv.specs.Quoting.{needs_byte}
use Rattle.csv.specs.Writing.{default_writer, field_text, needs_quotes}
use lib.Signed.{mag}
use Rattle.bt_value.specs.Hex.{hex_digit, hex_text}

digit_plain : (d : ℕ) → 48 ≤ d → d ≤ 57 → needs_byte default_writer d ≡ false
digit_plain d low high = grind (arith, nat_tests)

digits_plain : (ds : List ℕ) → AllDigits 10 ds → needs_quotes default_writer ds ≡ false
digits_plain [] digits = refl
digits_plain (d ∷ ds) digits =
    let here : needs_byte default_writer d ≡ false = digit_plain d (digit_from_value d digits.0).0 (digit_from_value d digits.0).1 in
    rw here (digits_plain ds digits.1)

-- an int needs no quotes
int_plain : (n : ℤ) → mag n < 2 ^ 63 → needs_quotes default_writer (signed_decimal n) ≡ false
int_plain (pos n) small = digits_plain (decimal n) (decimal_is_IsNumeral n (omega arith)).0.1
int_plain (negsuc n) small = digits_plain (decimal (suc n)) (decimal_is_IsNumeral (suc n) (omega arith)).0.1

pub int_field : (n : ℤ) → mag n < 2 ^ 63 → field_text default_writer (signed_decimal n) ≡ signed_decimal n
int_field n small = rw (int_plain n small) refl

-- hexadecimal digits need none either
large_plain : (d : ℕ) → 48 ≤ d → needs_byte default_writer d ≡ false
large_plain d low = grind (arith, nat_tests)

hex_digit_large : (n : ℕ) → 48 ≤ hex_digit n
hex_digit_large n = by_test (nat_lt n 10)
  where
    by_test : (b : Bool) → 48 ≤ (if b then 48 + n else 87 + n)
    by_test true = omega arith
    by_test false = omega arith

hex_plain : (bytes : List ℕ) → needs_quotes default_writer (hex_text bytes) ≡ false
hex_plain [] = refl
hex_plain (b ∷ bs) = rw (large_plain (hex_digit (b / 16)) (hex_digit_large (b / 16)), large_plain (hex_digit (b % 16)) (hex_digit_large (b % 16))) (hex_plain bs)

pub hex_field : (bytes : List ℕ) → field_text default_writer (hex_text bytes) ≡ hex_text bytes
hex_field bytes = rw (hex_plain bytes) refl
