-- The values that are decoded from bytes: those that the bytes encode, and none if they are no code. Used for the keys that an index prints.
use Rattle.std.proofs.Common.{◌≡◌, ◌∙◌, ℕ, suc, ◌+◌, ◌-◌, ◌^◌, ◌<◌, ◌&&◌, arith, Bool, true, false, true≢false, List, [], ◌∷◌, ◌++◌, append_assoc, append-nil}
use Rattle.std.proofs.Common.{drop, map, nat_le, take, Option, Some, None, refl, sym, ap, subst, ℤ, pos, negsuc, SFits, w64, if◌then◌else◌}
use Rattle.std.proofs.lemmas.Bool.Decides.{nat_tests}
use Rattle.std.proofs.lemmas.Nat.{from_be_bytes-to_be_bytes_8}
use Rattle.std.proofs.lemmas.Option.{none-some}
use Rattle.std.proofs.lemmas.Slice.Eq.{bytes_eq-Decides}
use Rattle.std.specs.Cmp.Lexicographic.{pointwise}
use Rattle.std.specs.Int.{from_be_bytes}
use Rattle.std.specs.Prelude.{option_and_then, option_map}
use Rattle.std.specs.Str.{bytes_eq}
use Rattle.bt_value.specs.Values.{fits_kind, AreInRange, IsInRange, LiesInRange, same_kind, takes_content}
use Rattle.bt_value.specs.declared.value.Kind.{Kind}
use Rattle.bt_value.specs.declared.value.Value.{Value}
use Rattle.bt_value.specs.Kinds.{Content, Number, Bytes, Bit, content_of, form_in, value_with}
use Rattle.bt_value.proofs.offered.Kinds.{fits_kind_of, form_held, same_kind-itself, with_content}
use Rattle.bt_keycode.specs.Codes.{IsCodeOf, IsNoCode, code_of, code_of_content, code_of_value, eight_bytes, kind_of, raised}
use Rattle.bt_keycode.specs.Decodings.{decoded}
use Rattle.bt_keycode.specs.inside.CodeBeginnings.{HasBits}
use Rattle.bt_keycode.specs.inside.Readings.{first_content, first_value, first_values, has_bits, if_coded, is_of_kind, lowered, unescaped}
use Rattle.bt_keycode.proofs.Codes.{has_bits as in_bits}
use Rattle.bt_keycode.proofs.DecodingInts.{raised_below}
use Rattle.bt_keycode.proofs.DecodingBytes.{read_again, split_end}

by_test : (n : ℕ) (b : Bool) → nat_le (2 ^ 63) n ≡ b → lowered n ≡ (if b then pos (n - 2 ^ 63) else negsuc (2 ^ 63 - suc n))
by_test n b is = ap (λ t. if t then pos (n - 2 ^ 63) else negsuc (2 ^ 63 - suc n)) is

lowered_again : (z : ℤ) → SFits w64 z → lowered (raised z) ≡ z
lowered_again (pos n) fits =
    let test : nat_le (2 ^ 63) (2 ^ 63 + n) ≡ true = grind (arith, nat_tests) in
    by_test (2 ^ 63 + n) true test ∙ ap pos (omega arith)
lowered_again (negsuc n) fits =
    let f = fits.sfits in
    let test : nat_le (2 ^ 63) (2 ^ 63 - suc n) ≡ false = grind (arith, nat_tests) in
    by_test (2 ^ 63 - suc n) false test ∙ ap negsuc (omega arith)

int_again : (n : ℕ) (rest : List ℕ) → n < 2 ^ 64 → from_be_bytes w64 (take 8 (eight_bytes n ++ rest)) ≡ n
unfolding eight_bytes
int_again n rest low = from_be_bytes-to_be_bytes_8 n low

others_again : (n : ℕ) (rest : List ℕ) → drop 8 (eight_bytes n ++ rest) ≡ rest
unfolding eight_bytes
others_again n rest = refl

-- a content is read from bytes that begin with its code
content_again : (c : Content) (rest : List ℕ) → HasBits c → first_content (form_in c) (code_of_content c ++ rest) ≡ Some (c, rest)
content_again (Number z) rest fits =
    ap (λ n. Some (Number (lowered n), drop 8 (eight_bytes (raised z) ++ rest))) (int_again (raised z) rest (raised_below z fits))
    ∙ ap (λ m. Some (Number m, drop 8 (eight_bytes (raised z) ++ rest))) (lowered_again z fits)
    ∙ ap (λ more. Some (Number z, more)) (others_again (raised z) rest)
content_again (Bytes bytes) rest fits = ap (option_map (λ read. (Bytes read.0, read.1))) (ap unescaped (split_end bytes rest) ∙ read_again bytes rest)
content_again (Bit true) rest fits = refl
content_again (Bit false) rest fits = refl

-- the value is read from bytes that begin with its code
value_again : (v : Value) (rest : List ℕ) → IsInRange v → first_value (kind_of v) (code_of_value v ++ rest) ≡ Some (v, rest)
unfolding first_value
value_again v rest fits =
    ap (λ f. option_map (λ read. (value_with (kind_of v) read.0, read.1)) (first_content f (code_of_value v ++ rest))) (sym (form_held v))
    ∙ ap (option_map (λ read. (value_with (kind_of v) read.0, read.1))) (content_again (content_of v) rest (in_bits v fits))
    ∙ ap (λ w. Some (w, rest)) (with_content v)

all_again : (values : List Value) (rest : List ℕ) → AreInRange values → first_values (map kind_of values) (code_of values ++ rest) ≡ Some values
unfolding first_values
all_again [] rest fits = refl
all_again (v ∷ values) rest fits =
    ap (λ bytes. option_and_then (λ read. option_map (λ vs. read.0 ∷ vs) (first_values (map kind_of values) read.1)) (first_value (kind_of v) bytes))
    (append_assoc (code_of_value v) (code_of values) rest)
    ∙ ap (option_and_then (λ read. option_map (λ vs. read.0 ∷ vs) (first_values (map kind_of values) read.1))) (value_again v (code_of values ++ rest) fits.0)
    ∙ ap (option_map (λ vs. v ∷ vs)) (all_again values rest fits.1)

-- ---- checking what was read

both_true : (a b : Bool) → (a && b) ≡ true → (a ≡ true) × (b ≡ true)
both_true true b is = (refl, is)
both_true false b is = absurd (true≢false (sym is))

-- the contents that a kind takes are those within its range
ranges_taken : (k : Kind) (c : Content) → takes_content k c ≡ true → has_bits c ≡ true → LiesInRange k c
ranges_taken k (Number (pos n)) taken low = record { sfits = grind (arith, nat_tests) }
ranges_taken k (Number (negsuc n)) taken low = record { sfits = grind (arith, nat_tests) }
ranges_taken k (Bytes bytes) taken low = taken
ranges_taken k (Bit bit) taken low = tt

taken_ranges : (k : Kind) (c : Content) → LiesInRange k c → (takes_content k c ≡ true) × (has_bits c ≡ true)
taken_ranges k (Number (pos n)) range = (refl, (let low = range.sfits in grind (arith, nat_tests)))
taken_ranges k (Number (negsuc n)) range = (refl, (let low = range.sfits in grind (arith, nat_tests)))
taken_ranges k (Bytes bytes) range = (range, refl)
taken_ranges k (Bit bit) range = (refl, refl)

of_kind : (k : Kind) (v : Value) → is_of_kind k v ≡ true → (kind_of v ≡ k) × IsInRange v
of_kind k v is =
    let both = both_true (fits_kind k v) (has_bits (content_of v)) is in
    let kind : kind_of v ≡ k = fits_kind_of k v both.0 in
    let taken = (both_true (same_kind (kind_of v) k) (takes_content k (content_of v)) both.0).1 in
    (kind, subst (λ j. LiesInRange j (content_of v)) (sym kind) (ranges_taken k (content_of v) taken both.1))

all_true : (a b c : Bool) → a ≡ true → b ≡ true → c ≡ true → ((a && b) && c) ≡ true
all_true a b c p q r = rw (p, q, r) refl

own_kind : (v : Value) → IsInRange v → is_of_kind (kind_of v) v ≡ true
own_kind v range =
    let both = taken_ranges (kind_of v) (content_of v) range in
    all_true (same_kind (kind_of v) (kind_of v)) (takes_content (kind_of v) (content_of v)) (has_bits (content_of v)) (same_kind-itself (kind_of v)) both.0 both.1

of_kinds : (kinds : List Kind) (values : List Value) → pointwise is_of_kind kinds values ≡ true → (map kind_of values ≡ kinds) × AreInRange values
of_kinds [] [] is = (refl, tt)
of_kinds [] (v ∷ vs) is = absurd (true≢false (sym is))
of_kinds (k ∷ ks) [] is = absurd (true≢false (sym is))
of_kinds (k ∷ ks) (v ∷ vs) is =
    let both = both_true (is_of_kind k v) (pointwise is_of_kind ks vs) is in
    let one = of_kind k v both.0 in
    let others = of_kinds ks vs both.1 in
    (λ i. one.0 i ∷ others.0 i, (one.1, others.1))

own_kinds : (values : List Value) → AreInRange values → pointwise is_of_kind (map kind_of values) values ≡ true
own_kinds [] range = refl
own_kinds (v ∷ vs) range = ap (λ b. b && pointwise is_of_kind (map kind_of vs) vs) (own_kind v range.0) ∙ own_kinds vs range.1

-- ---- the law of `decoded`: it returns values exactly if bytes are their code

-- values are decoded from their code
pub decoded_again : (values : List Value) → AreInRange values → decoded (map kind_of values) (code_of values) ≡ Some values
unfolding decoded
decoded_again values fits =
    ap (λ code. option_and_then (if_coded (map kind_of values) (code_of values)) (first_values (map kind_of values) code)) (sym (append-nil (code_of values)))
    ∙ ap (option_and_then (if_coded (map kind_of values) (code_of values))) (all_again values [] fits)
    ∙ ap (λ b. if b && bytes_eq (code_of values) (code_of values) then Some values else None) (own_kinds values fits)
    ∙ ap (λ b. if b then Some values else None) ((bytes_eq-Decides (code_of values) (code_of values)).1 refl)

-- if bytes are the code of values, these values are decoded
pub code_decoded : (kinds : List Kind) (bytes : List ℕ) (values : List Value) → IsCodeOf kinds bytes values → decoded kinds bytes ≡ Some values
code_decoded kinds bytes values is =
    ap (λ ks. decoded ks bytes) (sym is.of_kinds) ∙ ap (decoded (map kind_of values)) (sym is.code) ∙ decoded_again values is.in_range

-- the values that were decoded, or these if there are none
abbrev or_values : List Value → Option (List Value) → List Value
or_values values None = values
or_values values (Some found) = found

module _ (kinds : List Kind) (bytes : List ℕ) where
  coded : (values : List Value) → (pointwise is_of_kind kinds values && bytes_eq (code_of values) bytes) ≡ true → IsCodeOf kinds bytes values
  coded values is =
      let both = both_true (pointwise is_of_kind kinds values) (bytes_eq (code_of values) bytes) is in
      let fit = of_kinds kinds values both.0 in
      record { of_kinds = fit.0; in_range = fit.1; code = (bytes_eq-Decides (code_of values) bytes).0 both.1 }

  -- the bytes are the code of the values that are decoded from them
  pub decoded_code : (values : List Value) → decoded kinds bytes ≡ Some values → IsCodeOf kinds bytes values
  unfolding decoded
  decoded_code values = of_read (first_values kinds bytes)
    where
      of_values : (found : List Value) (b : Bool) → (pointwise is_of_kind kinds found && bytes_eq (code_of found) bytes) ≡ b
          → (if b then Some found else None) ≡ Some values → IsCodeOf kinds bytes values
      of_values found true test is = subst (IsCodeOf kinds bytes) (ap (or_values found) is) (coded found test)
      of_values found false test is = absurd (none-some values is)

      of_read : (found : Option (List Value)) → option_and_then (if_coded kinds bytes) found ≡ Some values → IsCodeOf kinds bytes values
      of_read None is = absurd (none-some values is)
      of_read (Some found) is = of_values found (pointwise is_of_kind kinds found && bytes_eq (code_of found) bytes) refl is

  -- nothing is decoded from bytes that are no code
  pub none_decoded : IsNoCode kinds bytes → decoded kinds bytes ≡ None
  none_decoded other = by_decoded (decoded kinds bytes) refl
    where
      by_decoded : (found : Option (List Value)) → decoded kinds bytes ≡ found → found ≡ None
      by_decoded None is = refl
      by_decoded (Some values) is = absurd (other values (decoded_code values is))
