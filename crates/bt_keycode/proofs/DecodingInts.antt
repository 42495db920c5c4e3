-- The codes of two ints with bytes after them, for `first_number` and for the uniqueness of codes.
use Rattle.std.proofs.Common.{◌≡◌, ℕ, zero, suc, refl, [], ◌∷◌, ◌^◌, ◌-◌, ◌<◌, ◌≤◌, List, ◌++◌, length, take, drop, ℤ, pos, negsuc, SFits, w64, sym, ap, ◌∙◌, arith}
use Rattle.std.proofs.lemmas.Nat.{from_be_bytes-to_be_bytes_8}
use Rattle.std.specs.Int.{from_be_bytes}
use Rattle.bt_keycode.specs.Codes.{eight_bytes, raised}
use Rattle.std.proofs.Math.ListN.{length-drop}
use Rattle.std.proofs.Math.Seq.{take-length}
use Rattle.bt_value.specs.Paddings.{padded}
use Rattle.bt_keycode.specs.Prefixes.{first_eight}

pub raised_below : (a : ℤ) → SFits w64 a → raised a < 2 ^ 64
raised_below (pos n) fits = let f = fits.sfits in omega arith
raised_below (negsuc n) fits = let f = fits.sfits in omega arith

raised_same : (a b : ℤ) → SFits w64 a → SFits w64 b → raised a ≡ raised b → a ≡ b
raised_same (pos m) (pos n) f g e = let same : m ≡ n = omega arith in ap pos same
raised_same (pos m) (negsuc n) f g e = let h = g.sfits in absurd (omega arith)
raised_same (negsuc m) (pos n) f g e = let h = f.sfits in absurd (omega arith)
raised_same (negsuc m) (negsuc n) f g e = let h = f.sfits in let k = g.sfits in let same : m ≡ n = omega arith in ap negsuc same

eight_apart : (m n : ℕ) (q r : List ℕ) → eight_bytes m ++ q ≡ eight_bytes n ++ r → (eight_bytes m ≡ eight_bytes n) × (q ≡ r)
unfolding eight_bytes
eight_apart m n q r e = ((cc), (cc))

eight_same : (m n : ℕ) → m < 2 ^ 64 → n < 2 ^ 64 → eight_bytes m ≡ eight_bytes n → m ≡ n
unfolding eight_bytes
eight_same m n low under e = sym (from_be_bytes-to_be_bytes_8 m low) ∙ ap (from_be_bytes w64) e ∙ from_be_bytes-to_be_bytes_8 n under

-- a code is that of only one int
pub same_int : (a b : ℤ) (q r : List ℕ) → SFits w64 a → SFits w64 b → eight_bytes (raised a) ++ q ≡ eight_bytes (raised b) ++ r → (a ≡ b) × (q ≡ r)
same_int a b q r f g e =
    let both = eight_apart (raised a) (raised b) q r e in
    (raised_same a b f g (eight_same (raised a) (raised b) (raised_below a f) (raised_below b g) both.0), both.1)

pub eight_long : (n : ℕ) (rest : List ℕ) → 8 ≤ length (eight_bytes n ++ rest)
unfolding eight_bytes
eight_long n rest = omega arith

-- a list that is long enough has no padding
padded_prefix : (n : ℕ) (xs : List ℕ) → n ≤ length xs → padded n xs ++ drop n xs ≡ xs
padded_prefix zero xs long = refl
padded_prefix (suc n) [] long = absurd (omega arith)
padded_prefix (suc n) (x ∷ xs) long = ap (λ ys. x ∷ ys) (padded_prefix n xs (omega arith))

-- bytes are their first eight followed by the others
pub eight_and_others : (n : ℕ) (bytes : List ℕ) → eight_bytes n ≡ first_eight bytes → 8 ≤ length bytes → eight_bytes n ++ take (length bytes - 8) (drop 8 bytes) ≡ bytes
unfolding first_eight
eight_and_others n bytes same long =
    let others : take (length bytes - 8) (drop 8 bytes) ≡ drop 8 bytes = ap (λ k. take k (drop 8 bytes)) (sym (length-drop 8 bytes)) ∙ take-length (drop 8 bytes) in
    ap (λ ys. ys ++ take (length bytes - 8) (drop 8 bytes)) same ∙ ap (λ ys. first_eight bytes ++ ys) others ∙ padded_prefix 8 bytes long
