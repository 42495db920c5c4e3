-- The reasons of operations in groups of three fields. Serves the loop that reads them.
use Rattle.std.proofs.Common.{ℕ, List, [], ◌∷◌, ◌+◌, ◌<◌, ◌≡◌, refl, arith, length, length-drop, drop, get_or, slice_get, Some}
use Rattle.std.proofs.lemmas.List.{drop_more}
use Rattle.std.proofs.lemmas.Option.{get_or_from_slice_get}
use Rattle.bt_row.specs.Schemas.{Schema}
use Rattle.bt_fault.specs.Reasons.{op_reason, op_reasons}

-- one more group
pub reasons_more : (schema : Schema) (item : ℕ) (fields : List (List ℕ)) (place : ℕ) (word name argument : List ℕ) → place + 2 < length fields
    → slice_get fields place ≡ Some word → slice_get fields (place + 1) ≡ Some name → slice_get fields (place + 2) ≡ Some argument
    → op_reasons schema item place (drop place fields) ≡ op_reason schema item place word name argument ∷ op_reasons schema item (place + 3) (drop (place + 3) fields)
reasons_more schema item fields place word name argument in_fields at_word at_name at_argument =
    let here : place < length fields = omega arith in
    let next : place + 1 < length fields = omega arith in
    let two : place + 1 + 1 ≡ place + 2 = omega arith in
    let three : place + 2 + 1 ≡ place + 3 = omega arith in
    let first : drop place fields ≡ get_or fields place [] ∷ drop (place + 1) fields = drop_more fields place [] here in
    let second : drop (place + 1) fields ≡ get_or fields (place + 1) [] ∷ drop (place + 2) fields = rw two at (drop_more fields (place + 1) [] next) in
    let third : drop (place + 2) fields ≡ get_or fields (place + 2) [] ∷ drop (place + 3) fields = rw three at (drop_more fields (place + 2) [] in_fields) in
    rw (
      first,
      second,
      third,
      get_or_from_slice_get fields place word [] at_word,
      get_or_from_slice_get fields (place + 1) name [] at_name,
      get_or_from_slice_get fields (place + 2) argument [] at_argument,
    ) refl

few : (schema : Schema) (item place : ℕ) (rest : List (List ℕ)) → length rest < 3 → op_reasons schema item place rest ≡ []
few schema item place [] short = refl
few schema item place (word ∷ []) short = refl
few schema item place (word ∷ name ∷ []) short = refl
few schema item place (word ∷ name ∷ argument ∷ rest) short = absurd (omega (arith, short))

-- no group is left
pub reasons_end : (schema : Schema) (item : ℕ) (fields : List (List ℕ)) (place : ℕ) → length fields < place + 3 → op_reasons schema item place (drop place fields) ≡ []
reasons_end schema item fields place short = few schema item place (drop place fields) (omega (arith, short, length-drop place fields))
