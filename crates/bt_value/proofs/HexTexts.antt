-- Bytes as hexadecimal text, byte by byte. Serves writing it.
use Rattle.std.proofs.Common.{◌≡◌, ◌<◌, ◌+◌, ◌++◌, ◌∷◌, ◌∙◌, [], ℕ, List, ap, append_assoc, get_or, length, refl, sym, take}
use Rattle.std.proofs.lemmas.List.{take_more}
use Rattle.bt_value.specs.Hex.{hex_text}

hex_text-append : (first second : List ℕ) → hex_text (first ++ second) ≡ hex_text first ++ hex_text second
hex_text-append [] second = refl
hex_text-append (b ∷ bs) second = ap (λ (digits : List ℕ). hex_text (b ∷ []) ++ digits) (hex_text-append bs second)

-- the digits of one more byte were added
pub one_more : (old out new bytes : List ℕ) (i : ℕ) → i < length bytes → out ≡ old ++ hex_text (take i bytes) → new ≡ out ++ hex_text (get_or bytes i 0 ∷ [])
    → new ≡ old ++ hex_text (take (i + 1) bytes)
one_more old out new bytes i within so_far added =
    let digits = hex_text (get_or bytes i 0 ∷ []) in
    added ∙ ap (λ (bs : List ℕ). bs ++ digits) so_far ∙ append_assoc old (hex_text (take i bytes)) digits
    ∙ ap (λ (bs : List ℕ). old ++ bs) (sym (hex_text-append (take i bytes) (get_or bytes i 0 ∷ []))) ∙ ap (λ (bs : List ℕ). old ++ hex_text bs) (sym (take_more bytes i 0 within))
