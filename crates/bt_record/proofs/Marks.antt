-- A byte order mark at the start of a text. Serves dropping the mark, and texts that have none.
use Rattle.std.proofs.Common.{ℕ, List, [], ◌∷◌, ◌≡◌, ◌==◌, ◌∙◌, refl, cond, drop, false, inl, inr}
use Rattle.std.proofs.lemmas.Bool.{cases_Bool, eqb-true, true≢false}
use Rattle.csv.specs.Reading.{strip_bom}
use Rattle.bt_record.specs.Records.{has_mark}
use Rattle.bt_record.specs.inside.RecordParts.{begins_record}

-- the text after the mark, if there is one
pub strip_by_test : (xs : List ℕ) → strip_bom xs ≡ cond (has_mark xs) (drop 3 xs) xs
unfolding strip_bom
strip_by_test [] = refl
strip_by_test (a ∷ []) = refl
strip_by_test (a ∷ b ∷ []) = refl
strip_by_test (a ∷ b ∷ c ∷ rest) = refl

-- a text without a mark is whole
pub strip_none : (xs : List ℕ) → has_mark xs ≡ false → strip_bom xs ≡ xs
strip_none xs none = strip_by_test xs ∙ rw none refl

-- a line end is no mark
pub unmarked : (xs : List ℕ) → begins_record xs ≡ false → has_mark xs ≡ false
unmarked [] other = refl
unmarked (a ∷ []) other = refl
unmarked (a ∷ b ∷ []) other = refl
unmarked (a ∷ b ∷ c ∷ rest) other = elim (cases_Bool (a == 239)) [
  | inl first ↦ absurd (true≢false (rw (eqb-true a 239 first) at other))
  | inr no_mark ↦ rw no_mark refl
]
