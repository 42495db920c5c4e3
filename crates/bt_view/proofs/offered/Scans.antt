-- A scan that ignores keys has the same result for rows with their keys as for the rows alone.
use Rattle.std.proofs.Common.{◌≡◌, ℕ, List, Option, Result, Ok, Err, ap, fold, map, refl, sym}
use Rattle.std.proofs.lemmas.List.Folds.{fold-map}
use Rattle.bt_value.specs.declared.refusal.Refusal.{Refusal}
use Rattle.bt_value.specs.declared.value.Value.{Value}
use Rattle.bt_form.specs.Messages.{Rows}
use Rattle.bt_value.specs.Results.{map_ok}
use Rattle.bt_table.specs.Tables.{TableState}
use Rattle.bt_view.specs.Ranges.{scan, scan_with_keys}

module _ {S : Type 0} (added : S → List Value → S) (begin : S) where
  of_answer : (answer : Result (Rows (List Value)) Refusal) → map_ok (fold (λ s row. added s row.1) begin) answer ≡ map_ok (fold added begin) (map_ok (map (λ row. row.1)) answer)
  of_answer (Ok rows) = ap Ok (sym (fold-map added (λ row. row.1) begin rows))
  of_answer (Err refusal) = refl

  pub without_keys : (state : TableState) (name : List ℕ) (from to : Option (List (List ℕ)))
      → map_ok (fold (λ s row. added s row.1) begin) (scan_with_keys state name from to) ≡ map_ok (fold added begin) (scan state name from to)
  without_keys state name from to = of_answer (scan_with_keys state name from to)
