-- Records that are typed one after the other, and one by one.
use Rattle.std.proofs.Common.{◌≡◌, ℕ, zero, suc, ◌+◌, ◌<◌, List, [], ◌∷◌, drop, get_or, length, map}
use Rattle.std.proofs.Common.{refl, subst, sym, ap, ◌∙◌, arith, Option, None, Result, Ok}
use Rattle.std.specs.List.{filter_map}
use Rattle.std.specs.Result.{result_err, result_ok}
use Rattle.bt_value.specs.Results.{all_read, unless}
use Rattle.bt_value.specs.Refusals.{lowest}
use Rattle.bt_row.specs.Schemas.{read_as}
use Rattle.bt_value.specs.declared.refusal.Refusal.{Refusal}
use Rattle.bt_row.specs.declared.rows.schema.Column.{Column}
use Rattle.bt_value.specs.declared.value.Value.{Value}
use Rattle.bt_load.specs.Loads.{typed_from}
use Rattle.bt_load.specs.Steps.{AreRowsOrNone, IsRowOrNone}
use Rattle.bt_load.specs.inside.Typed.{HaveValues}

abbrev Answer : Type 0
Answer = Result (List Value) Refusal

abbrev Fields : Type 0
Fields = List (List ℕ)

from_item : (columns : List Column) (m n : ℕ) (records : List Fields) → m ≡ n → typed_from columns m records ≡ typed_from columns n records
from_item columns m n records e = ap (λ i. typed_from columns i records) e

-- the record at a place is the next one
pub typed_next : (columns : List Column) (item place : ℕ) (records : List Fields) (d : Fields) → place < length records
    → typed_from columns (item + place) (drop place records) ≡ read_as columns (item + place) (get_or records place d) ∷ typed_from columns (item + (place + 1)) (drop (place + 1) records)
typed_next columns item place [] d within = absurd (omega (arith, within))
typed_next columns item zero (fields ∷ records) d within =
    let next : item + 0 + 1 ≡ item + (0 + 1) = omega arith in
    ap (λ (l : List Answer). read_as columns (item + 0) fields ∷ l) (from_item columns (item + 0 + 1) (item + (0 + 1)) records next)
typed_next columns item (suc place) (fields ∷ records) d within =
    let here : item + 1 + place ≡ item + suc place = omega arith in
    let next : item + 1 + (place + 1) ≡ item + (suc place + 1) = omega arith in
    let following : suc (place + 1) ≡ suc place + 1 = omega arith in
    sym (from_item columns (item + 1 + place) (item + suc place) (drop place records) here)
    ∙ typed_next columns (item + 1) place records d (omega (arith, within))
    ∙ (λ i. read_as columns (here i) (get_or records place d) ∷ typed_from columns (next i) (drop (following i) (fields ∷ records)))

-- ---- one by one

abbrev row_answer : List Value → Answer
row_answer row = Ok row

rows_of : (columns : List Column) (item : ℕ) (records : List Fields) (rows : List (List Value)) → length rows ≡ length records
    → ((k : ℕ) → k < length rows → IsRowOrNone columns (get_or records k []) (get_or rows k [])) → HaveValues rows
    → typed_from columns item records ≡ map row_answer rows
rows_of columns item [] [] long are some = refl
rows_of columns item [] (row ∷ rows) long are some = absurd (omega (arith, long))
rows_of columns item (fields ∷ records) [] long are some = absurd (omega (arith, long))
rows_of columns item (fields ∷ records) (row ∷ rows) long are some =
    let first = are 0 (omega arith) (some 0 (omega arith)) item in
    let others = rows_of columns (item + 1) records rows (omega (arith, long)) (λ k low. are (suc k) (omega (arith, low))) (λ k low. some (suc k) (omega (arith, low))) in
    (λ i. first i ∷ others i)

oks : (rows : List (List Value)) → filter_map result_ok (map row_answer rows) ≡ rows
oks [] = refl
oks (row ∷ rows) = ap (λ z. row ∷ z) (oks rows)

errs : (rows : List (List Value)) → filter_map result_err (map row_answer rows) ≡ []
errs [] = refl
errs (row ∷ rows) = errs rows

-- rows that all have values are those of the records
pub all_rows : (columns : List Column) (records : List Fields) (rows : List (List Value)) → length rows ≡ length records → AreRowsOrNone columns 0 records rows → HaveValues rows
    → all_read (typed_from columns 1 records) ≡ Ok rows
all_rows columns records rows long are some =
    ap all_read (rows_of columns 1 records rows long each some)
    ∙ ap (λ refusals. unless (lowest refusals) (filter_map result_ok (map row_answer rows))) (errs rows)
    ∙ ap Ok (oks rows)
  where
    each : (k : ℕ) → k < length rows → IsRowOrNone columns (get_or records k []) (get_or rows k [])
    each k low = let here : 0 + k ≡ k = omega arith in subst (λ n. IsRowOrNone columns (get_or records n []) (get_or rows k [])) here (are k low)

-- the result of reading all one after the other
pub all_finish : (columns : List Column) (records : List Fields) (values : List (List Value)) (refusal : Option Refusal) → values ≡ filter_map result_ok (typed_from columns 1 records)
    → refusal ≡ lowest (filter_map result_err (typed_from columns 1 records)) → all_read (typed_from columns 1 records) ≡ unless refusal values
all_finish columns records values refusal are lowest_is = λ i. unless (sym lowest_is i) (sym are i)
