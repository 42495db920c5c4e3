-- The rows of a text are rows of its columns.
use Rattle.std.proofs.Common.{◌≡◌, ℕ, List, [], ◌∷◌, ◌+◌, refl, subst, Option, Some, None, Result, Ok, Err, IfOk}
use Rattle.std.specs.List.{filter_map}
use Rattle.std.specs.Result.{result_err, result_map_both, result_ok}
use Rattle.bt_value.specs.Answers.{Answers}
use Rattle.bt_value.specs.Results.{all_read, unless}
use Rattle.bt_value.specs.Refusals.{lowest}
use Rattle.bt_value.specs.Values.{AreInRange}
use Rattle.bt_row.specs.Schemas.{read_as}
use Rattle.bt_value.specs.declared.refusal.Refusal.{Refusal}
use Rattle.bt_row.specs.declared.rows.schema.Column.{Column}
use Rattle.bt_value.specs.declared.value.Value.{Value}
use Rattle.bt_row.proofs.offered.Fits.{read_fits}
use Rattle.bt_keycode.proofs.offered.Ranges.{read_in_range}
use Rattle.bt_load.specs.Loads.{typed_from}
use Rattle.bt_keycode.specs.Standing.{AreOf}

one_more : (columns : List Column) (read : Result (List Value) Refusal) (reads : List (Result (List Value) Refusal)) → ((row : List Value) → read ≡ Ok row → AreOf columns (row ∷ []))
    → AreOf columns (filter_map result_ok reads) → AreOf columns (filter_map result_ok (read ∷ reads))
one_more columns (Ok row) reads first rest = ((first row refl).0, rest)
one_more columns (Err refusal) reads first rest = rest

typed_rows : (columns : List Column) (item : ℕ) (records : List (List (List ℕ))) → AreOf columns (filter_map result_ok (typed_from columns item records))
typed_rows columns item [] = tt
typed_rows columns item (fields ∷ records) =
    one_more columns (read_as columns item fields) (typed_from columns (item + 1) records)
    (λ row is. (record { fits = read_fits columns item fields row is; in_range = subst (λ (r : Result (List Value) Refusal). IfOk r AreInRange) is (read_in_range columns item fields) }, tt))
    (typed_rows columns (item + 1) records)

values_are : (refusal : Option Refusal) (values rows : List (List Value)) → unless refusal values ≡ Ok rows → values ≡ rows
values_are None values rows e = cc
values_are (Some r) values rows e = cc

-- the rows that are read, if none is refused
pub read_rows : (columns : List Column) (item : ℕ) (records : List (List (List ℕ))) (rows : List (List Value)) → all_read (typed_from columns item records) ≡ Ok rows → AreOf columns rows
read_rows columns item records rows is =
    let reads = typed_from columns item records in
    subst (AreOf columns) (values_are (lowest (filter_map result_err reads)) (filter_map result_ok reads) rows is) (typed_rows columns item records)

pub answered_rows : {T : Type 0} (items : T → List (List Value)) (columns : List Column) (records : List (List (List ℕ))) (r : Result T Refusal)
    → Answers (all_read (typed_from columns 1 records)) (result_map_both items (λ e. e) r) → IfOk r (λ rows. AreOf columns (items rows))
answered_rows items columns records (Ok rows) is = read_rows columns 1 records (items rows) is
answered_rows items columns records (Err refusal) is = tt
