-- What follows words of a line, and the only field of a record there. Serves the reading of a filter.
use Rattle.std.proofs.Common.{ℕ, zero, suc, List, [], ◌∷◌, ◌≡◌, ◌≢◌, ◌≤◌, ◌-◌, refl, length, Some, None, arith}
use Rattle.std.specs.Prelude.{slice_get}
use Rattle.bt_script.specs.Commands.{only_field}
use Rattle.bt_script.specs.Lines.{after_word, after_words}

-- what follows no word is the whole line
pub after_none : (line : List ℕ) → after_words 0 line ≡ line
unfolding after_words
after_none line = refl

-- what follows some words is what follows all but one of them in what follows the first
pub following_more : (count : ℕ) (line : List ℕ) → 1 ≤ count → after_words count line ≡ after_words (count - 1) (after_word line)
unfolding after_words
following_more zero line some = absurd (omega arith)
following_more (suc count) line some =
    let less : suc count - 1 ≡ count = omega arith in
    rw less refl

-- a record of no field or of several has no only field
pub only_none : (fields : List (List ℕ)) → length fields ≢ 1 → only_field fields ≡ None
only_none [] other = refl
only_none (field ∷ []) other = absurd (other refl)
only_none (field ∷ second ∷ fields) other = refl

-- the only field is the first
pub only_first : (fields : List (List ℕ)) (field : List ℕ) → length fields ≡ 1 → slice_get fields 0 ≡ Some field → only_field fields ≡ Some field
only_first [] field one first = absurd (omega arith)
only_first (one_field ∷ []) field one first = first
only_first (one_field ∷ second ∷ fields) field one first = absurd (omega arith)
