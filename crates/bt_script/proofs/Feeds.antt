-- The first line feed of a text. Serves the cutting of a script into lines.
use Rattle.std.proofs.Common.{ℕ, zero, suc, List, [], ◌∷◌, ◌<◌, ◌≡◌, ◌==◌, ◌∙◌, refl, sym, not, true, arith, get_or, inl, inr, length}
use Rattle.std.proofs.lemmas.Bool.{cases_Bool}
use Rattle.std.proofs.lemmas.List.Folds.{length-prefix_len}
use Rattle.std.specs.List.{prefix_len, take_while}
use Rattle.memchr.specs.Find.{Nowhere, Passes, is_byte}

-- the bytes before it
before : (text : List ℕ) (place : ℕ) → place < length text → Nowhere (Passes (is_byte 10) text) 0 place → (get_or text place 0 == 10) ≡ true
    → place ≡ prefix_len (λ b. not (b == 10)) text
before [] place within none feed = absurd (omega (arith, within))
before (b ∷ bs) zero within none feed = rw feed refl
before (b ∷ bs) (suc place) within none feed = elim (cases_Bool (b == 10)) [
  | inl first ↦ absurd (none 0 (omega arith) (omega arith) first)
  | inr other ↦
      let later = before bs place (omega (arith, within)) (λ k low high passes. none (suc k) (omega arith) (omega (arith, high)) passes) feed in
      rw other (omega (arith, later))
]

-- all bytes, if there is none
none_at : (text : List ℕ) → Nowhere (Passes (is_byte 10) text) 0 (length text) → length text ≡ prefix_len (λ b. not (b == 10)) text
none_at [] none = refl
none_at (b ∷ bs) none = elim (cases_Bool (b == 10)) [
  | inl first ↦ absurd (none 0 (omega arith) (omega arith) first)
  | inr other ↦
      let later = none_at bs (λ k low high passes. none (suc k) (omega arith) (omega (arith, high)) passes) in
      rw other (omega (arith, later))
]

pub before_feed : (text : List ℕ) (place : ℕ) → place < length text → Nowhere (Passes (is_byte 10) text) 0 place → (get_or text place 0 == 10) ≡ true
    → place ≡ length (take_while (λ b. not (b == 10)) text)
before_feed text place within none feed = before text place within none feed ∙ sym (length-prefix_len (λ b. not (b == 10)) text)

pub no_feed : (text : List ℕ) → Nowhere (Passes (is_byte 10) text) 0 (length text) → length text ≡ length (take_while (λ b. not (b == 10)) text)
no_feed text none = none_at text none ∙ sym (length-prefix_len (λ b. not (b == 10)) text)
