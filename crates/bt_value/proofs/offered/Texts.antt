-- Whether bytes are a text of a column. Serves readers of texts.
use Rattle.std.proofs.Common.{◌≡◌, ◌∙◌, sym, ap, List, [], ℕ, arith, length, true, false, Bool, ◌&&◌, nat_le, inl, inr, refl, ◌≤◌, ◌<◌}
use Rattle.std.proofs.lemmas.Bool.{cases_Bool, le-leb, leb-true, lt-leb}
use Rattle.std.specs.Prelude.{IsUtf8}
use Rattle.std.specs.Str.{is_utf8}
use Rattle.std.proofs.lemmas.Str.{IsUtf8-nil, is_utf8-from_IsUtf8, IsUtf8-from_is_utf8}
use Rattle.bt_value.specs.Texts.{is_text, most_value_bytes}

and_true : (b : Bool) → b ≡ (b && true)
and_true true = refl
and_true false = refl

and_false : (b : Bool) → false ≡ (b && false)
and_false true = refl
and_false false = refl

pub text_by_length : (bytes : List ℕ) → IsUtf8 bytes → nat_le (length bytes) most_value_bytes ≡ is_text bytes
text_by_length bytes utf8 = and_true (nat_le (length bytes) most_value_bytes) ∙ ap (λ u. nat_le (length bytes) most_value_bytes && u) (sym (is_utf8-from_IsUtf8 bytes utf8))

pub no_text : (bytes : List ℕ) → (IsUtf8 bytes → ⊥) → false ≡ is_text bytes
no_text bytes broken = elim (cases_Bool (is_utf8 bytes)) [
  | inl utf8 ↦ absurd (broken (IsUtf8-from_is_utf8 bytes utf8))
  | inr not ↦ and_false (nat_le (length bytes) most_value_bytes) ∙ ap (λ u. nat_le (length bytes) most_value_bytes && u) (sym not)
]

pub short_text : (bytes : List ℕ) → length bytes ≤ most_value_bytes → IsUtf8 bytes → is_text bytes ≡ true
short_text bytes short utf8 = sym (text_by_length bytes utf8) ∙ le-leb (length bytes) most_value_bytes short

pub no_bytes : is_text [] ≡ true
no_bytes = short_text [] (omega arith) IsUtf8-nil

pub text_length : (bytes : List ℕ) → is_text bytes ≡ true → length bytes ≤ most_value_bytes
text_length bytes text = leb-true (length bytes) most_value_bytes (first_of_both (nat_le (length bytes) most_value_bytes) (is_utf8 bytes) text)
  where
    first_of_both : (a b : Bool) → (a && b) ≡ true → a ≡ true
    first_of_both true b both = refl
    first_of_both false b both = absurd cc
