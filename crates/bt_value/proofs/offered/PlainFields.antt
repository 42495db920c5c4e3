-- Texts that begin with a plain field: what it encodes, and how the rest is cut. Serves reading a line in one pass.
use Rattle.std.proofs.Common.{ℕ, zero, suc, Bool, List, [], ◌∷◌, ◌++◌, ◌≡◌, ◌<◌, ◌≤◌, ◌+◌, ◌-◌, ◌*◌, ◌^◌, ◌==◌, ◌-ℤ◌, to_z, of_z, slice_index, IfSome, ◌∙◌, not}
use Rattle.std.proofs.Common.{subst, refl, ap, sym, arith, true, false, drop, get_or, inl, inr, length, length-take, nat_le, take, Option, Some, None, pos}
use Rattle.std.proofs.Common.{neg_ℤ, ℤ}
use mathlib.Core.Bool.{true≢false}
use Rattle.std.proofs.Math.Nat.{pow-suc}
use Rattle.std.proofs.lemmas.Bool.{cases_Bool, eqb-true, le-leb, lt-leb}
use Rattle.std.proofs.lemmas.Bool.Decides.{nat_tests}
use Rattle.std.proofs.lemmas.List.{drop-drop, drop_all, drop_more, take_more}
use Rattle.std.proofs.lemmas.List.Folds.{list_all_more}
use Rattle.std.proofs.lemmas.Int.{ints}
use Rattle.std.proofs.lemmas.Str.{IsUtf8-from_ascii}
use Rattle.std.proofs.lemmas.Str.Ascii.{IsAscii-cons, IsAscii-nil}
use Rattle.std.specs.Int.{w64}
use Rattle.std.specs.List.{list_all, list_any}
use Rattle.std.specs.Str.{IsAscii}
use Rattle.bt_value.specs.Ints.{digits_after, int_of, is_digit, is_numeral, number_written}
use Rattle.bt_value.specs.Texts.{is_text, most_value_bytes}
use Rattle.bt_value.specs.PlainFields.{EndsPlain, fields_from, is_plain, is_special, parts_of}
use Rattle.bt_value.proofs.IntTexts.{minus_short, plain_short}
use Rattle.bt_value.proofs.offered.Tests.{first_true, second_true}
use Rattle.bt_value.proofs.offered.Texts.{short_text}

-- ---- bytes

digit_plain : (b : ℕ) → is_digit b ≡ true → is_plain b ≡ true
digit_plain b digit = grind (arith, nat_tests)

digits_plain : (text : List ℕ) → list_all is_digit text ≡ true → list_all is_plain text ≡ true
digits_plain [] digits = refl
digits_plain (b ∷ bs) digits =
    let rest = list_all is_digit bs in
    rw (digit_plain b (first_true (is_digit b) rest digits), digits_plain bs (second_true (is_digit b) rest digits)) refl

plain_comma : (b : ℕ) → is_plain b ≡ true → (b == 44) ≡ false
plain_comma b plain = grind (arith, nat_tests)

plain_special : (b : ℕ) → is_plain b ≡ true → is_special b ≡ false
plain_special b plain = grind (arith, nat_tests)

-- ---- the number of digits

digits_more : (n : ℕ) (ds : List ℕ) (d : ℕ) → digits_after n (ds ++ d ∷ []) ≡ digits_after n ds * 10 + (d - 48)
digits_more n [] d = refl
digits_more n (x ∷ xs) d = digits_more (n * 10 + (x - 48)) xs d

-- one more digit
pub written_more : (text : List ℕ) (end : ℕ) → end < length text → number_written (take (end + 1) text) ≡ number_written (take end text) * 10 + (get_or text end 0 - 48)
written_more text end within = ap number_written (take_more text end 0 within) ∙ digits_more 0 (take end text) (get_or text end 0)

-- one more byte that passes a test
pub all_more : (p : ℕ → Bool) (text : List ℕ) (end : ℕ) → end < length text → list_all p (take end text) ≡ true → p (get_or text end 0) ≡ true → list_all p (take (end + 1) text) ≡ true
all_more p text end within all is = list_all_more p text end 0 within ∙ rw (all, is) refl

-- one more digit leaves the number below a power of ten
pub small_more : (number end b : ℕ) → number < 10 ^ end → is_digit b ≡ true → number * 10 + (b - 48) < 10 ^ (end + 1)
small_more number end b small digit =
    let e : end + 1 ≡ suc end = omega arith in
    let power : 10 ^ (end + 1) ≡ 10 ^ end * 10 = ap (λ n. 10 ^ n) e ∙ pow-suc 10 end in
    let most : b ≤ 57 = grind (arith, nat_tests) in
    omega (arith, power, small, most)

-- digits end a plain field
pub digits_end : (text : List ℕ) (end : ℕ) → end ≤ length text → list_all is_digit (take end text) ≡ true → get_or text end 44 ≡ 44 → EndsPlain text end
digits_end text end within digits ends = record { within = within; plain = digits_plain (take end text) digits; ends = ends }

-- ---- what the first field encodes

-- digits do not begin with a minus
no_minus : (field : List ℕ) → is_numeral field ≡ true → (get_or field 0 0 == 45) ≡ false
no_minus [] numeral = absurd cc
no_minus (b ∷ bs) numeral =
    let digits : list_all is_digit (b ∷ bs) ≡ true = second_true (not (length (b ∷ bs) == 0)) (list_all is_digit (b ∷ bs)) numeral in
    let digit : is_digit b ≡ true = first_true (is_digit b) (list_all is_digit bs) digits in
    grind (arith, nat_tests)

spelled : (field : List ℕ) (n : ℤ) → pos (number_written field) ≡ n → is_numeral field ≡ true → number_written field ≤ 2 ^ 63 - 1 → int_of field ≡ Some n
spelled field n number numeral small = plain_short field (no_minus field numeral) (λ _. small) ∙ rw (numeral, number) refl

-- an int without a minus
pub spelled_plain : (text : List ℕ) (found : Option (ℤ × ℕ)) → IfSome found (λ f. pos (number_written (take f.1 text)) ≡ f.0) → IfSome found (λ f. is_numeral (take f.1 text) ≡ true)
    → IfSome found (λ f. number_written (take f.1 text) ≤ 2 ^ 63 - 1) → IfSome found (λ f. int_of (take f.1 text) ≡ Some f.0)
spelled_plain text None number numeral small = tt
spelled_plain text (Some f) number numeral small = spelled (take f.1 text) f.0 number numeral small

-- the negation of a number of 63 bits has 64 bits
pub negated : (n : ℕ) → n ≤ 2 ^ 63 - 1 → to_z w64 (of_z w64 (pos 0 -ℤ to_z w64 (of_z w64 (pos n)))) ≡ neg_ℤ (pos n)
negated n small = omega (arith, ints)

-- the bytes taken, if one more is taken: the first byte, then the others
taken_after : (text : List ℕ) (end b : ℕ) → (slice_index text 0 == b) ≡ true → (b == 0) ≡ false → take (end + 1) text ≡ b ∷ take end (drop 1 text)
taken_after [] end b first some = absurd (true≢false (sym first ∙ some_zero b some))
  where
    some_zero : (b : ℕ) → (b == 0) ≡ false → (0 == b) ≡ false
    some_zero b some = grind (arith, nat_tests)
taken_after (x ∷ xs) end b first some =
    let e : end + 1 ≡ suc end = omega arith in
    ap (λ n. take n (x ∷ xs)) e ∙ ap (λ (y : ℕ). y ∷ take end xs) (eqb-true x b first)

-- an int with a minus
pub spelled_minus : (text digits : List ℕ) (end : ℕ) (n : ℤ) → (slice_index text 0 == 45) ≡ true → digits ≡ drop 1 text
    → pos (number_written (take end digits)) ≡ n → is_numeral (take end digits) ≡ true
    → number_written (take end digits) ≤ 2 ^ 63 - 1 → int_of (take (end + 1) text) ≡ Some (to_z w64 (of_z w64 (pos 0 -ℤ to_z w64 (of_z w64 n))))
spelled_minus text digits end n minus is number numeral small =
    let field = take end digits in
    let after_minus : take (end + 1) text ≡ 45 ∷ field = taken_after text end 45 minus refl ∙ ap (λ (l : List ℕ). 45 ∷ take end l) (sym is) in
    minus_short (take (end + 1) text) field after_minus (λ _. small) ∙ rw (numeral, ← number, negated (number_written field) small) refl

-- it ends where the digits do
minus_before : (text : List ℕ) (end : ℕ) → (slice_index text 0 == 45) ≡ true → EndsPlain (drop 1 text) end → EndsPlain text (end + 1)
minus_before [] end minus ends = absurd cc
minus_before (b ∷ bs) end minus ends =
    let e : end + 1 ≡ suc end = omega arith in
    let plain : is_plain b ≡ true = rw (eqb-true b 45 minus) refl in
    rw e (record { within = omega (arith, ends.within); plain = rw plain ends.plain; ends = ends.ends })

pub minus_end : (text digits : List ℕ) (end : ℕ) → (slice_index text 0 == 45) ≡ true → digits ≡ drop 1 text → EndsPlain digits end → EndsPlain text (end + 1)
minus_end text digits end minus is ends = minus_before text end minus (subst (λ (l : List ℕ). EndsPlain l end) is ends)

plain_ascii : (field : List ℕ) → list_all is_plain field ≡ true → IsAscii field
plain_ascii [] plain = IsAscii-nil
plain_ascii (b ∷ bs) plain =
    let rest = list_all is_plain bs in
    IsAscii-cons b bs (ascii b (first_true (is_plain b) rest plain)) (plain_ascii bs (second_true (is_plain b) rest plain))
  where
    ascii : (b : ℕ) → is_plain b ≡ true → b < 128
    ascii b plain = grind (arith, nat_tests)

-- a plain field that isn't too long is a text
pub plain_is_text : (text : List ℕ) (end : ℕ) → EndsPlain text end → end ≤ most_value_bytes → is_text (take end text) ≡ true
plain_is_text text end ends short =
    short_text (take end text) (omega (arith, short, length-take end text)) (IsUtf8-from_ascii (take end text) (plain_ascii (take end text) ends.plain))

-- ---- how a text is cut after its first field

-- the fields after a comma or the end
abbrev fields_following : List ℕ → List (List ℕ)
fields_following [] = []
fields_following (b ∷ bs) = parts_of bs

first_part : (text : List ℕ) (end : ℕ) → list_all is_plain (take end text) ≡ true → get_or text end 44 ≡ 44 → parts_of text ≡ take end text ∷ fields_following (drop end text)
first_part [] zero plain ends = refl
first_part [] (suc end) plain ends = refl
first_part (b ∷ bs) zero plain ends = rw ends refl
first_part (b ∷ bs) (suc end) plain ends =
    let rest = list_all is_plain (take end bs) in
    rw (plain_comma b (first_true (is_plain b) rest plain), first_part bs end (second_true (is_plain b) rest plain) ends) refl

-- neither the bytes of the field nor the comma are special
plain_part : (text : List ℕ) (end : ℕ) → list_all is_plain (take end text) ≡ true → get_or text end 44 ≡ 44 → list_any is_special text ≡ list_any is_special (drop (suc end) text)
plain_part [] end plain ends = refl
plain_part (b ∷ bs) zero plain ends = rw ends refl
plain_part (b ∷ bs) (suc end) plain ends =
    let rest = list_all is_plain (take end bs) in
    rw (plain_special b (first_true (is_plain b) rest plain)) (plain_part bs end (second_true (is_plain b) rest plain) ends)

from_after : (text : List ℕ) (end : ℕ) → fields_following (drop end text) ≡ fields_from (end + 1) text
from_after text end = elim (cases_Bool (nat_le (end + 1) (length text))) [
  | inl more ↦
      let within : end < length text = grind (arith, nat_tests) in
      rw more (ap fields_following (drop_more text end 0 within))
  | inr none ↦
      let past : length text ≤ end = grind (arith, nat_tests) in
      rw none (ap fields_following (drop_all end text past))
]

-- what is left from a place on, if there is a plain field at the place
pub cut_here : (text : List ℕ) (at end : ℕ) → at ≤ length text → EndsPlain (drop at text) end → fields_from at text ≡ take end (drop at text) ∷ fields_from (at + (end + 1)) text
cut_here text at end within ends =
    let here : nat_le at (length text) ≡ true = le-leb at (length text) within in
    let there : at + end + 1 ≡ at + (end + 1) = omega arith in
    rw here (first_part (drop at text) end ends.plain ends.ends)
    ∙ ap (λ (rest : List ℕ). take end (drop at text) ∷ fields_following rest) (drop-drop end at text)
    ∙ ap (λ (rest : List (List ℕ)). take end (drop at text) ∷ rest) (from_after text (at + end) ∙ ap (λ n. fields_from n text) there)

-- a cut does not change whether a special byte is left
pub plain_here : (text : List ℕ) (at end : ℕ) → EndsPlain (drop at text) end → list_any is_special (drop at text) ≡ list_any is_special (drop (at + (end + 1)) text)
plain_here text at end ends =
    let there : at + suc end ≡ at + (end + 1) = omega arith in
    plain_part (drop at text) end ends.plain ends.ends ∙ ap (list_any is_special) (drop-drop (suc end) at text ∙ ap (λ n. drop n text) there)

-- the same, stated for the rest as the code has it
pub next_cut : (text rest : List ℕ) (at end : ℕ) → at ≤ length text → rest ≡ drop at text → EndsPlain rest end → fields_from at text ≡ take end rest ∷ fields_from (at + (end + 1)) text
next_cut text rest at end within is ends =
    cut_here text at end within (subst (λ (l : List ℕ). EndsPlain l end) is ends) ∙ ap (λ (l : List ℕ). take end l ∷ fields_from (at + (end + 1)) text) (sym is)

pub next_plain : (text rest : List ℕ) (at end : ℕ) → rest ≡ drop at text → EndsPlain rest end → list_any is_special (drop at text) ≡ list_any is_special (drop (at + (end + 1)) text)
next_plain text rest at end is ends = plain_here text at end (subst (λ (l : List ℕ). EndsPlain l end) is ends)

-- nothing is left after the end
pub none_from : (text : List ℕ) (at : ℕ) → length text < at → (fields_from at text ≡ []) × (list_any is_special (drop at text) ≡ false)
none_from text at past =
    let after_end : nat_le at (length text) ≡ false = lt-leb at (length text) past in
    (rw after_end refl, ap (list_any is_special) (drop_all at text (omega (arith, past))))
