-- Iterating over columns and their fields. Serves the loop that reads values.
use Rattle.std.proofs.Common.{ℕ, suc, eq-eqb, List, [], ◌∷◌, ◌++◌, ◌+◌, ◌<◌, ◌≤◌, ◌≡◌, ◌∙◌, refl, sym, ap, arith, length, length-take, take, drop, get_or, Option, Some, None, Ok, append_assoc}
use Rattle.std.proofs.lemmas.List.{drop_more, get_or-take}
use Rattle.std.proofs.lemmas.Option.{get_or_from_slice_get}
use Rattle.std.specs.Prelude.{option_map, slice_get}
use Rattle.bt_row.specs.Schemas.{read_as, values_of, with_first}
use Rattle.bt_value.specs.Values.{value_of}
use Rattle.bt_row.specs.declared.rows.schema.Column.{Column}
use Rattle.bt_value.specs.declared.value.Value.{Value}

-- values followed by others, if there are others
abbrev pub following : List Value → Option (List Value) → Option (List Value)
following prefix rest = option_map (λ vs. prefix ++ vs) rest

following-first : (prefix : List Value) (v : Value) (rest : Option (List Value)) → following prefix (with_first (Some v) rest) ≡ following (prefix ++ v ∷ []) rest
following-first prefix v None = refl
following-first prefix v (Some vs) = ap Some (sym (append_assoc prefix (v ∷ []) vs))

-- one more field that encodes a value
pub values-drop-some : (columns : List Column) (fields : List (List ℕ)) (i : ℕ) (c : Column) (prefix : List Value) (v : Value) → i < length columns → i < length fields
    → value_of (get_or columns i c).kind (get_or fields i []) ≡ Some v
    → following prefix (values_of (drop i columns) (drop i fields)) ≡ following (prefix ++ v ∷ []) (values_of (drop (i + 1) columns) (drop (i + 1) fields))
values-drop-some columns fields i c prefix v in_columns in_fields spelled =
    rw (drop_more columns i c in_columns, drop_more fields i [] in_fields, spelled) (following-first prefix v (values_of (drop (i + 1) columns) (drop (i + 1) fields)))

-- a field that encodes no value
pub values-drop-none : (columns : List Column) (fields : List (List ℕ)) (i : ℕ) (c : Column) (prefix : List Value) → i < length columns → i < length fields
    → value_of (get_or columns i c).kind (get_or fields i []) ≡ None
    → following prefix (values_of (drop i columns) (drop i fields)) ≡ None
values-drop-none columns fields i c prefix in_columns in_fields not_spelled = rw (drop_more columns i c in_columns, drop_more fields i [] in_fields, not_spelled) refl

-- the field at a place
pub at_place : (fields : List (List ℕ)) (i : ℕ) (field : List ℕ) → slice_get fields i ≡ Some field → get_or fields i [] ≡ field
at_place fields i field at = get_or_from_slice_get fields i field [] at

-- ---- the first fields, one for each column

-- the value of the field at a place
first_value : (columns : List Column) (fields : List (List ℕ)) (place : ℕ) (column : Column) (field : List ℕ) (found : Option Value) → place < length columns → get_or columns place column ≡ column
    → slice_get fields place ≡ Some field → value_of column.kind field ≡ found → value_of (get_or columns place column).kind (get_or (take (length columns) fields) place []) ≡ found
first_value columns fields place column field found within at_column at_field is = rw (at_column, get_or-take (length columns) fields place [] within, at_place fields place field at_field) is

-- one more field that encodes a value
pub first_more : (columns : List Column) (fields : List (List ℕ)) (place : ℕ) (column : Column) (prefix : List Value) (v : Value) (field : List ℕ)
    → place < length columns → length columns ≤ length fields
    → get_or columns place column ≡ column → slice_get fields place ≡ Some field → value_of column.kind field ≡ Some v
    → following prefix (values_of (drop place columns) (drop place (take (length columns) fields)))
    ≡ following (prefix ++ v ∷ []) (values_of (drop (place + 1) columns) (drop (place + 1) (take (length columns) fields)))
first_more columns fields place column prefix v field within long at_column at_field is =
    let here : place < length (take (length columns) fields) = omega (arith, within, long, length-take (length columns) fields) in
    values-drop-some columns (take (length columns) fields) place column prefix v within here (first_value columns fields place column field (Some v) within at_column at_field is)

-- a field that encodes no value
pub first_none : (columns : List Column) (fields : List (List ℕ)) (place : ℕ) (column : Column) (prefix : List Value) (field : List ℕ) → place < length columns → length columns ≤ length fields
    → get_or columns place column ≡ column → slice_get fields place ≡ Some field → value_of column.kind field ≡ None
    → following prefix (values_of (drop place columns) (drop place (take (length columns) fields))) ≡ None
first_none columns fields place column prefix field within long at_column at_field is =
    let here : place < length (take (length columns) fields) = omega (arith, within, long, length-take (length columns) fields) in
    values-drop-none columns (take (length columns) fields) place column prefix within here (first_value columns fields place column field None within at_column at_field is)

-- ---- one more column

-- a first value and others
first_and_others : (first : Option Value) (others : Option (List Value)) (row : List Value) → with_first first others ≡ Some row → (v : Value)
    × (vs : List Value) × (first ≡ Some v) × (others ≡ Some vs) × (row ≡ v ∷ vs)
first_and_others None others row is = absurd cc
first_and_others (Some v) None row is = absurd cc
first_and_others (Some v) (Some vs) row is = let same : row ≡ v ∷ vs = cc in (v, vs, refl, refl, same)

pub values_more : (columns : List Column) (fields : List (List ℕ)) (row : List Value) (c : Column) (field : List ℕ) (v : Value) → values_of columns fields ≡ Some row → value_of c.kind field ≡ Some v
    → values_of (columns ++ c ∷ []) (fields ++ field ∷ []) ≡ Some (row ++ v ∷ [])
values_more [] [] row c field v is value =
    let same : Some [] ≡ Some row = is in
    let none : row ≡ [] = cc in
    ap (λ (o : Option Value). with_first o (Some [])) value ∙ ap (λ (l : List Value). Some (l ++ v ∷ [])) (sym none)
values_more [] (f ∷ fields) row c field v is value = absurd cc
values_more (d ∷ columns) [] row c field v is value = absurd cc
values_more (d ∷ columns) (f ∷ fields) row c field v is value =
    let found = first_and_others (value_of d.kind f) (values_of columns fields) row is in
    let others = values_of (columns ++ c ∷ []) (fields ++ field ∷ []) in
    let later : others ≡ Some (found.1 ++ v ∷ []) = values_more columns fields found.1 c field v found.3 value in
    ap (λ (o : Option Value). with_first o others) found.2 ∙ ap (λ (o : Option (List Value)). with_first (Some found.0) o) later
    ∙ ap (λ (l : List Value). Some (l ++ v ∷ [])) (sym found.4)

-- if there are values, there are values of the other columns too
with_others : (first : Option Value) (others : Option (List Value)) (row : List Value) (P : Type 0) → ((vs : List Value) → others ≡ Some vs → P) → with_first first others ≡ Some row → P
with_others None others row P rest is = absurd cc
with_others (Some v) None row P rest is = absurd cc
with_others (Some v) (Some vs) row P rest is = rest vs refl

values_length : (columns : List Column) (fields : List (List ℕ)) (row : List Value) → values_of columns fields ≡ Some row → length fields ≡ length columns
values_length [] [] row is = refl
values_length [] (field ∷ fields) row is = absurd cc
values_length (c ∷ columns) [] row is = absurd cc
values_length (c ∷ columns) (field ∷ fields) row is =
    ap suc (with_others (value_of c.kind field) (values_of columns fields) row (length fields ≡ length columns) (λ vs others. values_length columns fields vs others) is)

-- the values that fields encode are those that the record is read as
pub values_read : (columns : List Column) (item : ℕ) (fields : List (List ℕ)) (row : List Value) → values_of columns fields ≡ Some row → read_as columns item fields ≡ Ok row
values_read columns item fields row is = rw (eq-eqb (length fields) (length columns) (values_length columns fields row is), is) refl
