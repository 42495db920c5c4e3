-- A text to which rows add their lines.
use Rattle.std.proofs.Common.{ℕ, ◌≡◌, ◌∙◌, ◌++◌, List, [], ◌∷◌, append-nil, append_assoc, map, sym}
use Rattle.std.specs.Prelude.{flat_map, fold}
use Rattle.bt_value.specs.declared.value.Value.{Value}
use Rattle.bt_form.specs.Messages.{Rows}
use Rattle.bt_show.specs.RecordTexts.{record_line}

pub visited_from : (text : List ℕ) (rows : Rows (List Value)) → fold (λ all row. all ++ record_line row.1) text rows ≡ text ++ flat_map record_line (map (λ row. row.1) rows)
visited_from text [] = sym (append-nil text)
visited_from text (row ∷ rows) =
    visited_from (text ++ record_line row.1) rows ∙ append_assoc text (record_line row.1) (flat_map record_line (map (λ row. row.1) rows))
