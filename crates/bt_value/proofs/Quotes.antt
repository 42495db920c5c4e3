-- A text between quotes, byte by byte. Serves writing a record.
use Rattle.std.proofs.Common.{ℕ, List, [], ◌∷◌, ◌++◌, ◌+◌, ◌<◌, ◌≤◌, ◌≡◌, ◌≢◌, ◌∙◌, refl, ap, length, take, get_or, append_assoc}
use Rattle.std.proofs.lemmas.List.{take_all}
use Rattle.csv.specs.Writing.{default_writer, escaped, quoted}
use Rattle.csv.proofs.WriteFacts.{escaped-double, escaped-other, quoted-step}

-- a quote is written twice
pub quote_escaped : (b : ℕ) → b ≡ 34 → escaped default_writer (b ∷ []) ≡ 34 ∷ 34 ∷ []
quote_escaped b quote = escaped-double default_writer b quote refl ∙ ap (λ (x : ℕ). x ∷ x ∷ []) quote

-- any other byte is written once
pub other_escaped : (b : ℕ) → b ≢ 34 → escaped default_writer (b ∷ []) ≡ b ∷ []
other_escaped b other = escaped-other default_writer b other

pub none_escaped : (old new : List ℕ) → new ≡ old ++ 34 ∷ [] → new ≡ old ++ (34 ∷ escaped default_writer [])
unfolding escaped
none_escaped old new added = added

-- one more byte
pub more_escaped : (old out new text : List ℕ) (i : ℕ) → i < length text → out ≡ old ++ (34 ∷ escaped default_writer (take i text))
    → new ≡ out ++ escaped default_writer (get_or text i 0 ∷ []) → new ≡ old ++ (34 ∷ escaped default_writer (take (i + 1) text))
more_escaped old out new text i within so_far added =
    let first = 34 ∷ escaped default_writer (take i text) in
    let byte = escaped default_writer (get_or text i 0 ∷ []) in
    added ∙ ap (λ (t : List ℕ). t ++ byte) so_far ∙ append_assoc old first byte ∙ ap (λ (t : List ℕ). old ++ t) (quoted-step default_writer 34 text i within)

-- all bytes, and the quote after them
pub all_quoted : (old out new text : List ℕ) (i : ℕ) → length text ≤ i → out ≡ old ++ (34 ∷ escaped default_writer (take i text)) → new ≡ out ++ 34 ∷ []
    → new ≡ old ++ quoted default_writer text
all_quoted old out new text i past so_far added =
    added ∙ ap (λ (t : List ℕ). t ++ 34 ∷ []) so_far ∙ append_assoc old (34 ∷ escaped default_writer (take i text)) (34 ∷ [])
    ∙ ap (λ (t : List ℕ). old ++ (34 ∷ (escaped default_writer t ++ 34 ∷ []))) (take_all i text past)
