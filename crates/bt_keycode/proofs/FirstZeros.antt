-- The place of the first zero byte. For the codes of bytes and for reading them.
use Rattle.std.proofs.Common.{ℕ, List, ◌≡◌, ◌<◌, ◌==◌, arith, false, true, get_or, inl, inr, length, nat_eq, take}
use Rattle.std.proofs.lemmas.Bool.{cases_Bool}
use Rattle.std.proofs.lemmas.Grind.{get_or_default_zero}
use Rattle.std.proofs.lemmas.List.{get_or-take, length-take-le}
use Rattle.std.proofs.lemmas.List.Folds.{list_any_none}
use Rattle.std.specs.List.{list_any}

-- there is no zero byte
pub none_zero : (bytes : List ℕ) → ((k : ℕ) → k < length bytes → (get_or bytes k 0 == 0) ≡ true → ⊥) → list_any (λ b. nat_eq b 0) bytes ≡ false
none_zero bytes none = list_any_none (λ b. nat_eq b 0) bytes (λ k d within. elim (cases_Bool (get_or bytes k d == 0)) [
  | inl is ↦ absurd (none k within (rw (get_or_default_zero bytes k d within) at is))
  | inr other ↦ other
])

-- the bytes before the first zero byte
pub none_before : (bytes : List ℕ) (place : ℕ) → place < length bytes → ((k : ℕ) → k < place → (get_or bytes k 0 == 0) ≡ true → ⊥) →
    list_any (λ b. nat_eq b 0) (take place bytes) ≡ false
none_before bytes place here none = none_zero (take place bytes) (λ k within is.
    let long = length-take-le place bytes (omega arith) in
    let below : k < place = omega arith in
    none k below (rw (get_or-take place bytes k 0 below) at is))
