-- The code of bytes is read as these bytes, and only their code is. For `unescape`, and for the uniqueness of codes.
use Rattle.std.proofs.Common.{◌≡◌, ℕ, zero, suc, ◌==◌, List, [], ◌∷◌, ◌++◌, Option, Some, None, false, if◌then◌else◌}
use Rattle.std.proofs.Common.{append_assoc, refl, sym, ap, ◌∙◌, inl, inr, arith, length, length-append, nat_eq, ◌<◌}
use Rattle.std.proofs.lemmas.Bool.{cases_Bool, eqb-true}
use Rattle.std.specs.List.{list_any}
use Rattle.bt_keycode.specs.Codes.{escaped}
use Rattle.bt_keycode.specs.inside.Readings.{after_bytes, unescaped}
use Rattle.bt_keycode.proofs.Escapes.{escaped_no_zero}

not_zero : (n : ℕ) → (suc n == 0) ≡ false
not_zero n = elim (cases_Bool (suc n == 0)) [ inl same ↦ let e = eqb-true (suc n) 0 same in cc | inr other ↦ other ]

escaped-suc : (n : ℕ) (found : List ℕ) → escaped (suc n ∷ found) ≡ suc n ∷ escaped found
escaped-suc n found = ap (λ b. if b then 0 ∷ 255 ∷ escaped found else suc n ∷ escaped found) (not_zero n)

found_in : Option (List ℕ × List ℕ) → List ℕ
found_in None = []
found_in (Some read) = read.0

rest_in : Option (List ℕ × List ℕ) → List ℕ
rest_in None = []
rest_in (Some read) = read.1

-- two results of a reading that are equal have equal bytes, and an equal rest
pub both_read : (found rest other more : List ℕ) → ◌≡◌ {A = Option (List ℕ × List ℕ)} (Some (found, rest)) (Some (other, more)) → (found ≡ other) × (rest ≡ more)
unfolding found_in rest_in
both_read found rest other more e = (ap found_in e, ap rest_in e)

-- bytes are read from their code, with anything after it
pub read_again : (found rest : List ℕ) → unescaped (escaped found ++ (0 ∷ 1 ∷ rest)) ≡ Some (found, rest)
unfolding unescaped
read_again [] rest = refl
read_again (zero ∷ found) rest = ap (after_bytes (0 ∷ [])) (read_again found rest)
read_again (suc n ∷ found) rest =
    ap (λ code. unescaped (code ++ (0 ∷ 1 ∷ rest))) (escaped-suc n found) ∙ ap (after_bytes (suc n ∷ [])) (read_again found rest)

-- what was read, with bytes before it
pub read_after : (prefix : List ℕ) (read : Option (List ℕ × List ℕ)) (found rest : List ℕ) → after_bytes prefix read ≡ Some (found, rest) →
    (more : List ℕ) × (read ≡ Some (more, rest)) × (found ≡ prefix ++ more)
read_after prefix None found rest e = cc
read_after prefix (Some read) found rest e =
    let both = both_read (prefix ++ read.0) read.1 found rest e in
    (read.0, ap (λ r. Some (read.0, r)) both.1, sym both.0)

-- what is read after a zero byte
after_zero : (b : ℕ) (bytes found rest : List ℕ) →
    ◌≡◌ {A = Option (List ℕ × List ℕ)} (if b == 1 then Some ([], bytes) else (if b == 255 then after_bytes (0 ∷ []) (unescaped bytes) else None)) (Some (found, rest)) →
    ((more : List ℕ) → unescaped bytes ≡ Some (more, rest) → escaped more ++ (0 ∷ 1 ∷ rest) ≡ bytes) → escaped found ++ (0 ∷ 1 ∷ rest) ≡ 0 ∷ b ∷ bytes
after_zero b bytes found rest e again = elim (cases_Bool (b == 1)) [
  | inl one ↦
      let both = both_read [] bytes found rest (rw one at e) in
      ap (λ s. escaped s ++ (0 ∷ 1 ∷ rest)) (sym both.0) ∙ ap (λ s. 0 ∷ 1 ∷ s) (sym both.1) ∙ ap (λ c. 0 ∷ c ∷ bytes) (sym (eqb-true b 1 one))
  | inr other ↦ elim (cases_Bool (b == 255)) [
    | inl more ↦
        let read = read_after (0 ∷ []) (unescaped bytes) found rest (rw (other, more) at e) in
        ap (λ s. escaped s ++ (0 ∷ 1 ∷ rest)) read.2 ∙ ap (λ s. 0 ∷ 255 ∷ s) (again read.0 read.1) ∙ ap (λ c. 0 ∷ c ∷ bytes) (sym (eqb-true b 255 more))
    | inr broken ↦ let f = rw (other, broken) at e in cc
  ]
]

-- what is read has this code
pub spelled : (bytes found rest : List ℕ) → unescaped bytes ≡ Some (found, rest) → escaped found ++ (0 ∷ 1 ∷ rest) ≡ bytes
unfolding unescaped
spelled [] found rest e = cc
spelled (suc n ∷ bytes) found rest e =
    let read = read_after (suc n ∷ []) (unescaped bytes) found rest e in
    ap (λ s. escaped s ++ (0 ∷ 1 ∷ rest)) read.2 ∙ ap (λ s. s ++ (0 ∷ 1 ∷ rest)) (escaped-suc n read.0) ∙ ap (λ s. suc n ∷ s) (spelled bytes read.0 rest read.1)
spelled (zero ∷ []) found rest e = cc
spelled (zero ∷ b ∷ bytes) found rest e = after_zero b bytes found rest e (λ more f. spelled bytes more rest f)

-- the end, in two parts
pub split_end : (found rest : List ℕ) → (escaped found ++ (0 ∷ 1 ∷ [])) ++ rest ≡ escaped found ++ (0 ∷ 1 ∷ rest)
split_end found rest = append_assoc (escaped found) (0 ∷ 1 ∷ []) rest

-- if one more byte follows the first ones, there are more bytes than these
pub too_long : (bytes first code more : List ℕ) (byte : ℕ) → unescaped bytes ≡ after_bytes first (unescaped code) → unescaped code ≡ after_bytes (byte ∷ []) (unescaped more) →
    (found rest : List ℕ) → unescaped bytes ≡ Some (found, rest) → length first < length found
too_long bytes first code more byte e f found rest read =
    let following = read_after first (unescaped code) found rest (sym e ∙ read) in
    let next = read_after (byte ∷ []) (unescaped more) following.0 rest (sym f ∙ following.1) in
    let whole : found ≡ first ++ (byte ∷ next.0) = following.2 ∙ ap (λ zs. first ++ zs) next.2 in
    omega (arith, ap length whole, length-append first (byte ∷ next.0))

-- bytes without a zero byte are in their code unchanged
pub read_plain : (bytes found following rest : List ℕ) → bytes ≡ found ++ 0 ∷ following → list_any (λ b. nat_eq b 0) found ≡ false → following ≡ 1 ∷ rest → unescaped bytes ≡ Some (found, rest)
read_plain bytes found following rest whole none end =
    ap unescaped (whole ∙ ap (λ bs. found ++ 0 ∷ bs) end ∙ sym (ap (λ t. t ++ 0 ∷ 1 ∷ rest) (escaped_no_zero found none))) ∙ read_again found rest
