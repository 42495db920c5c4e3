-- The text of a value is read as that value.
use Rattle.std.proofs.Common.{ℕ, suc, ◌≡◌, ◌∙◌, ◌+◌, ◌-◌, ◌*◌, ◌/◌, ◌%◌, ◌^◌, ◌<◌, ◌≤◌, ◌==◌, ◌&&◌, Bool, true, false, List, [], ◌∷◌, length, get_or}
use Rattle.std.proofs.Common.{nat_le, nat_lt, Option, Some, None, ap, subst, refl, arith, inl, inr, rules, ℤ, pos, negsuc, neg_ℤ, if◌then◌else◌, w64}
use Rattle.std.proofs.lemmas.Bool.{cases_lt, le-leb, lt-leb}
use Rattle.std.proofs.lemmas.Bool.Decides.{nat_tests}
use Rattle.std.proofs.lemmas.Fmt.{decimal_nonempty, digits_decimal, digits_value-decimal}
use Rattle.std.proofs.lemmas.Str.Parse.{IsNumeralModel, numerals_by_fold}
use Rattle.std.specs.Fmt.{decimal, signed_decimal}
use Rattle.std.specs.List.{AllByRecursion, list_all}
use Rattle.std.specs.Prelude.{FitsSigned, map, option_and_then, option_map}
use Rattle.bt_value.specs.Hex.{byte_of, bytes_of_hex, digit_of, hex_digit, hex_text}
use Rattle.bt_value.specs.Ints.{digits_after, int_of, is_digit, is_numeral, number_up_to, number_written}
use Rattle.bt_value.specs.Kinds.{kind_of}
use Rattle.bt_row.specs.Schemas.{fit_columns, values_of, with_first}
use Rattle.bt_value.specs.Values.{fits_kind, AreInRange, IsInRange, text_of, value_of}
use Rattle.bt_value.specs.Texts.{is_binary}
use Rattle.bt_row.specs.declared.rows.schema.Column.{Column}
use Rattle.bt_value.specs.declared.value.Kind.{Kind}
use Rattle.bt_value.specs.declared.value.Value.{Value}
use Rattle.bt_value.specs.declared.value.Value.TheVariants as value
use Rattle.bt_value.proofs.offered.Kinds.{fits_kind_of}
use Rattle.bt_laws.specs.StoredTables.{HasOnlyBytes}

-- ---- numbers

pub own : IsNumeralModel (λ ds. list_all is_digit ds ≡ true) number_written
own = numerals_by_fold _ (search rules) digits_after (search rules)

-- digits with a number that is small enough
numeral : (ds : List ℕ) (n most : ℕ) → 0 < length ds → list_all is_digit ds ≡ true → number_written ds ≡ n → n ≤ most → number_up_to most ds ≡ Some n
numeral ds n most some digits number small =
    let test : (is_numeral ds && nat_le (number_written ds) most) ≡ true = grind (arith, nat_tests) in
    ap (λ b. if b then Some (number_written ds) else None) test ∙ ap (λ (k : ℕ). Some k) number

decimal_read : (n most : ℕ) → n < 2 ^ 64 → n ≤ most → number_up_to most (decimal n) ≡ Some n
decimal_read n most few small = numeral (decimal n) n most (decimal_nonempty n few) (digits_decimal own n few) (digits_value-decimal own n few) small

no_minus : (ds : List ℕ) → 0 < length ds → list_all is_digit ds ≡ true → (get_or ds 0 0 == 45) ≡ false
no_minus [] some digits = absurd (omega arith)
no_minus (d ∷ ds) some digits = grind (arith, nat_tests)

int_of_text : (n : ℤ) → FitsSigned w64 n → int_of (signed_decimal n) ≡ Some n
unfolding int_of
int_of_text (pos n) fits =
    let few : n < 2 ^ 63 = omega (arith, fits.sfits) in
    let plain = no_minus (decimal n) (decimal_nonempty n (omega arith)) (digits_decimal own n (omega arith)) in
    rw plain (ap (λ o. option_map pos o) (decimal_read n (2 ^ 63 - 1) (omega arith) (omega arith)))
int_of_text (negsuc n) fits =
    let few : suc n ≤ 2 ^ 63 = omega (arith, fits.sfits) in
    ap (λ o. option_map (λ k. neg_ℤ (pos k)) o) (decimal_read (suc n) (2 ^ 63) (omega arith) few)

-- ---- bytes

low_digit : (b : ℕ) → 48 ≤ b → b ≤ 57 → digit_of b ≡ Some (b - 48)
low_digit b from to = rw (le-leb 48 b from, le-leb b 57 to) refl

high_digit : (b : ℕ) → 97 ≤ b → b ≤ 102 → digit_of b ≡ Some (b - 87)
high_digit b from to =
    let past : nat_le b 57 ≡ false = lt-leb b 57 (omega arith) in
    rw (le-leb 48 b (omega arith), past, le-leb 97 b from, le-leb b 102 to) refl

digit_of_hex : (n : ℕ) → n < 16 → digit_of (hex_digit n) ≡ Some n
digit_of_hex n few = elim (cases_lt n 10) [
  | inl digit ↦
      let test : nat_lt n 10 ≡ true = grind (arith, nat_tests) in
      let is : 48 + n - 48 ≡ n = omega arith in
      ap (λ t. digit_of (if t then 48 + n else 87 + n)) test ∙ low_digit (48 + n) (omega arith) (omega arith) ∙ ap (λ (k : ℕ). Some k) is
  | inr letter ↦
      let test : nat_lt n 10 ≡ false = grind (arith, nat_tests) in
      let is : 87 + n - 87 ≡ n = omega arith in
      ap (λ t. digit_of (if t then 48 + n else 87 + n)) test ∙ high_digit (87 + n) (omega arith) (omega arith) ∙ ap (λ (k : ℕ). Some k) is
]

byte_of_hex : (b : ℕ) → b < 256 → byte_of (hex_digit (b / 16)) (hex_digit (b % 16)) ≡ Some b
byte_of_hex b few =
    let high = digit_of_hex (b / 16) (omega arith) in
    let low = digit_of_hex (b % 16) (omega arith) in
    let whole : b / 16 * 16 + b % 16 ≡ b = omega arith in
    ap (λ (o : Option ℕ). option_and_then (λ h. option_map (λ l. h * 16 + l) (digit_of (hex_digit (b % 16)))) o) high
    ∙ ap (λ (o : Option ℕ). option_map (λ l. b / 16 * 16 + l) o) low ∙ ap (λ (k : ℕ). Some k) whole

no_byte : bytes_of_hex [] ≡ Some []
unfolding bytes_of_hex
no_byte = refl

more_bytes : (high low : ℕ) (digits : List ℕ) → bytes_of_hex (high ∷ low ∷ digits) ≡ option_and_then (λ b. option_map (λ bs. b ∷ bs) (bytes_of_hex digits)) (byte_of high low)
unfolding bytes_of_hex
more_bytes high low digits = refl

bytes_of_text : (bytes : List ℕ) → AllByRecursion (λ b. b < 256) bytes → bytes_of_hex (hex_text bytes) ≡ Some bytes
bytes_of_text [] all = no_byte
bytes_of_text (b ∷ bytes) all =
    more_bytes (hex_digit (b / 16)) (hex_digit (b % 16)) (hex_text bytes)
    ∙ ap (λ (o : Option ℕ). option_and_then (λ x. option_map (λ bs. x ∷ bs) (bytes_of_hex (hex_text bytes))) o) (byte_of_hex b all.0)
    ∙ ap (λ (o : Option (List ℕ)). option_map (λ bs. b ∷ bs) o) (bytes_of_text bytes all.1)

-- ---- values

value_of_text : (v : Value) → IsInRange v → HasOnlyBytes v → value_of (kind_of v) (text_of v) ≡ Some v
value_of_text (value.Int n) range bytes = ap (option_map value.Int) (int_of_text n range)
value_of_text (value.Text text) range bytes = ap (λ b. option_map value.Text (if b then Some text else None)) range
value_of_text (value.Flag true) range bytes = refl
value_of_text (value.Flag false) range bytes = refl
value_of_text (value.Bytes own_bytes) range bytes =
    ap (λ o. option_map value.Bytes (option_and_then (λ bs. if is_binary bs then Some bs else None) o)) (bytes_of_text own_bytes bytes)
    ∙ ap (λ b. option_map value.Bytes (if b then Some own_bytes else None)) range

both : (a b : Bool) → (a && b) ≡ true → (a ≡ true) × (b ≡ true)
both true b e = (refl, e)
both false b e = absurd cc

-- the texts of a row are read as that row
pub values_of_texts : (columns : List Column) (row : List Value) → fit_columns columns row ≡ true → AreInRange row → AllByRecursion HasOnlyBytes row → values_of columns (map text_of row) ≡ Some row
values_of_texts [] [] fits range bytes = refl
values_of_texts [] (v ∷ vs) fits range bytes = absurd cc
values_of_texts (c ∷ columns) [] fits range bytes = absurd cc
values_of_texts (c ∷ columns) (v ∷ vs) fits range bytes =
    let parts = both (fits_kind c.kind v) (fit_columns columns vs) fits in
    let first : value_of c.kind (text_of v) ≡ Some v = subst (λ (k : Kind). value_of k (text_of v) ≡ Some v) (fits_kind_of c.kind v parts.0) (value_of_text v range.0 bytes.0) in
    ap (λ (o : Option Value). with_first o (values_of columns (map text_of vs))) first
    ∙ ap (λ (o : Option (List Value)). option_map (λ rest. v ∷ rest) o) (values_of_texts columns vs parts.1 range.1 bytes.1)
