-- The records that are left after some were taken. Serves reading a piece by one reader of csv.
use Rattle.std.proofs.Common.{ℕ, List, [], ◌∷◌, ◌≡◌, ◌+◌, ◌<◌, ◌∙◌, sym, ap, drop, get_or, length, take, Option, Some, None}
use Rattle.std.proofs.lemmas.List.{drop_more}
use Rattle.std.specs.Prelude.{IfNone, IfSome}
use Rattle.bt_row.specs.Schemas.{read_as}
use Rattle.bt_row.specs.declared.rows.schema.Column.{Column}
use Rattle.bt_value.specs.declared.value.Value.{Value}
use Rattle.bt_load.specs.Steps.{IsRowOrNone}
use Rattle.bt_load.proofs.Firsts.{first_fields}

-- taking one, if there is one
pub taken : {X : Type 0} (old new : List X) (found : Option X) → IfSome found (λ x. old ≡ x ∷ new) → IfNone found ((old ≡ []) × (new ≡ [])) → new ≡ drop 1 old
taken old new None some none = none.1 ∙ sym (ap (drop 1) none.0)
taken old new (Some x) some none = sym (ap (drop 1) some)

-- taking the record at a place
pub taken_at : (records old new : List (List (List ℕ))) (place : ℕ) (whole : List (List ℕ)) → place < length records → old ≡ drop place records → old ≡ whole ∷ new
    → (whole ≡ get_or records place []) × (new ≡ drop (place + 1) records)
taken_at records old new place whole within before is =
    let same = sym is ∙ before ∙ drop_more records place [] within in
    (ap (λ l. get_or l 0 []) same, ap (drop 1) same)

-- a row of the first fields of a record is the row of the record
pub row_of_first : (columns : List Column) (whole fields : List (List ℕ)) (row : List Value) → fields ≡ take (length columns + 1) whole → IsRowOrNone columns fields row → IsRowOrNone columns whole row
row_of_first columns whole fields row first is some item = sym (first_fields columns item whole) ∙ ap (read_as columns item) (sym first) ∙ is some item
