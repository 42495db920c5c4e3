-- Operations in groups of three fields. Serves the loop that reads them.
use Rattle.std.proofs.Common.{ℕ, List, [], ◌∷◌, ◌+◌, ◌<◌, ◌≡◌, refl, arith, length, length-drop, drop, get_or, slice_get, Some, Result}
use Rattle.std.proofs.lemmas.List.{drop_more}
use Rattle.bt_rowtype.proofs.Columnwise.{at_place}
use Rattle.bt_row.specs.Ops.{op_of, ops_of}
use Rattle.bt_row.specs.Schemas.{Schema}
use Rattle.bt_row.specs.declared.operations.op.Op.{Op}
use Rattle.bt_value.specs.declared.refusal.Refusal.{Refusal}

-- the operation of the three fields from a place on
abbrev pub op_at : Schema → ℕ → List (List ℕ) → ℕ → Result Op Refusal
op_at schema item fields place = op_of schema item (get_or fields place []) (get_or fields (place + 1) []) (get_or fields (place + 2) [])

-- one more group
pub ops_more : (schema : Schema) (item : ℕ) (fields : List (List ℕ)) (place : ℕ) → place + 2 < length fields
    → ops_of schema item (drop place fields) ≡ op_at schema item fields place ∷ ops_of schema item (drop (place + 3) fields)
ops_more schema item fields place in_fields =
    let here : place < length fields = omega arith in
    let next : place + 1 < length fields = omega arith in
    let two : place + 1 + 1 ≡ place + 2 = omega arith in
    let three : place + 2 + 1 ≡ place + 3 = omega arith in
    let first : drop place fields ≡ get_or fields place [] ∷ drop (place + 1) fields = drop_more fields place [] here in
    let second : drop (place + 1) fields ≡ get_or fields (place + 1) [] ∷ drop (place + 2) fields = rw two at (drop_more fields (place + 1) [] next) in
    let third : drop (place + 2) fields ≡ get_or fields (place + 2) [] ∷ drop (place + 3) fields = rw three at (drop_more fields (place + 2) [] in_fields) in
    rw (first, second, third) refl

few : (schema : Schema) (item : ℕ) (rest : List (List ℕ)) → length rest < 3 → ops_of schema item rest ≡ []
few schema item [] short = refl
few schema item (word ∷ []) short = refl
few schema item (word ∷ name ∷ []) short = refl
few schema item (word ∷ name ∷ argument ∷ rest) short = absurd (omega (arith, short))

-- no group is left
pub ops_end : (schema : Schema) (item : ℕ) (fields : List (List ℕ)) (place : ℕ) → length fields < place + 3 → ops_of schema item (drop place fields) ≡ []
ops_end schema item fields place short = few schema item (drop place fields) (omega (arith, short, length-drop place fields))

-- the operation of the three fields that are there
pub op_of_fields : (schema : Schema) (item : ℕ) (fields : List (List ℕ)) (place : ℕ) (word name argument : List ℕ) → slice_get fields place ≡ Some word
    → slice_get fields (place + 1) ≡ Some name → slice_get fields (place + 2) ≡ Some argument
    → op_at schema item fields place ≡ op_of schema item word name argument
op_of_fields schema item fields place word name argument first second third =
    rw (at_place fields place word first, at_place fields (place + 1) name second, at_place fields (place + 2) argument third) refl
