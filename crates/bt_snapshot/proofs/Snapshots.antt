-- The parts of a snapshot, and the table that it restores.
use Rattle.std.proofs.Common.{ℕ, ◌≡◌, ◌∙◌, ◌++◌, List, [], ◌∷◌, map, None, Some, Result, Ok, Err, ap, refl, subst, sym, append_assoc}
use Rattle.std.specs.Prelude.{flat_map, fold}
use Rattle.bt_value.specs.Results.{map_ok}
use Rattle.bt_value.specs.Values.{text_of as text_of_value}
use Rattle.bt_row.specs.RecordTexts.{record_text}
use Rattle.bt_value.specs.declared.refusal.Refusal.{Refusal}
use Rattle.bt_value.specs.declared.value.Value.{Value}
use Rattle.bt_row.specs.declared.rows.schema.Column.{Column}
use Rattle.bt_form.specs.Messages.{Rows}
use Rattle.bt_script.specs.Commands.{commands}
use Rattle.bt_shell.specs.Runs.{after_commands}
use Rattle.bt_shell.specs.Steps.{State}
use Rattle.bt_show.specs.RecordTexts.{record_line}
use Rattle.bt_table.specs.Calls.{Load, step}
use Rattle.bt_table.specs.Standing.{IsConsistent}
use Rattle.bt_table.specs.Tables.{Intact, Lost, PlainTable, TableState}
use Rattle.bt_table.specs.declared.reply.Reply.{Reply}
use Rattle.bt_snapshot.specs.Snapshots.{IsCompacted, header_line, loaded_into, restored, script_of, text_of}
use Rattle.bt_snapshot.specs.inside.Compacting.{HasDump, HaveSameDefinitions, IsWhole, name_value}
use Rattle.bt_snapshot.proofs.offered.Lines.{visited_from}

-- ---- the bytes

-- the names of columns are the texts of their values
names_as_text : (columns : List Column) → map text_of_value (map name_value columns) ≡ map (λ c. c.name) columns
names_as_text [] = refl
names_as_text (column ∷ columns) = ap (λ (rest : List (List ℕ)). column.name ∷ rest) (names_as_text columns)

-- the record of the names and a line feed are the header
pub header_written : (before middle after : List ℕ) (columns : List Column) (row : List Value) → row ≡ map name_value columns → middle ≡ before ++ record_text (map text_of_value row) →
    after ≡ middle ++ 10 ∷ [] → after ≡ before ++ header_line columns
header_written before middle after columns row names record_added ended =
    let fields : map text_of_value row ≡ map (λ c. c.name) columns = ap (map text_of_value) names ∙ names_as_text columns in
    ended ∙ ap (λ (l : List ℕ). l ++ 10 ∷ []) (record_added ∙ ap (λ (f : List (List ℕ)). before ++ record_text f) fields)
    ∙ append_assoc before (record_text (map (λ c. c.name) columns)) (10 ∷ [])

-- what a visitor has of a scan whose rows are known
pub lines_shown : (text after : List ℕ) (keyed : Result (Rows (List Value)) Refusal) (rows : List (List Value)) →
    map_ok (fold (λ all row. all ++ record_line row.1) text) keyed ≡ Ok after → map_ok (map (λ row. row.1)) keyed ≡ Ok rows → after ≡ text ++ flat_map record_line rows
lines_shown text after (Err refusal) rows made shown = absurd cc
lines_shown text after (Ok keyed) rows made shown =
    let whole : fold (λ all row. all ++ record_line row.1) text keyed ≡ after = cc in
    let are : map (λ row. row.1) keyed ≡ rows = cc in
    sym whole ∙ visited_from text keyed ∙ ap (λ (r : List (List Value)). text ++ flat_map record_line r) are

-- ---- the table

-- a text that was loaded into a state was loaded into a table
loaded_by : (state : State) (text : List ℕ) (new : PlainTable) → loaded_into state text ≡ Ok (Intact new) →
    (from : PlainTable) × (reply : Reply) × (step (Intact from) (Load text) ≡ Ok (Intact new, reply))
loaded_by None text new is = absurd cc
loaded_by (Some Lost) text new is = absurd cc
loaded_by (Some (Intact from)) text new is = by_step (step (Intact from) (Load text)) refl is
  where
    by_step : (done : Result (TableState × Reply) Refusal) → step (Intact from) (Load text) ≡ done → map_ok (λ d. d.0) done ≡ Ok (Intact new) →
        (from : PlainTable) × (reply : Reply) × (step (Intact from) (Load text) ≡ Ok (Intact new, reply))
    by_step (Err refusal) made same = absurd cc
    by_step (Ok done) made same =
        let after : done.0 ≡ Intact new = cc in
        (from, done.1, made ∙ ap (λ (t : TableState). Ok (t, done.1)) after)

pub compacted : (old new : TableState) (payload : List ℕ) → IsWhole old → HasDump old payload → restored payload ≡ Ok new → IsConsistent new → HaveSameDefinitions old new → IsCompacted old new
compacted Lost new payload whole dump is consistent same = absurd whole
compacted (Intact old) Lost payload whole dump is consistent same = absurd same
compacted (Intact old) (Intact new) payload whole dump is consistent same = record {
  definitions = same;
  complete = whole;
  sound = consistent.sound;
  loaded = λ rows shown.
      let made = loaded_by (after_commands None (commands (script_of payload))) (text_of payload) new is in
      (made.0, made.1, subst (λ (text : List ℕ). step (Intact made.0) (Load text) ≡ Ok (Intact new, made.1)) (dump rows shown) made.2);
}
