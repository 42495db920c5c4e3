-- A table as bytes: a script that makes a table with the same definitions, and the rows as a text that this table loads.
use Rattle.std.specs.Int.{from_le_bytes, w64}
use Rattle.std.specs.List.{list_all}
use Rattle.std.specs.Prelude.{ℕ, ◌≡◌, ◌++◌, List, map, flat_map, drop, take, None, Some, Result, Ok, Err, true, codes}
use Rattle.bt_value.specs.Results.{map_ok}
use Rattle.bt_value.specs.declared.refusal.Refusal.{Refusal}
use Rattle.bt_value.specs.declared.refusal.Refusal.TheVariants.{NoTable}
use Rattle.bt_value.specs.declared.value.Value.{Value}
use Rattle.bt_row.specs.RecordTexts.{record_text}
use Rattle.bt_row.specs.Schemas.{Schema}
use Rattle.bt_row.specs.declared.rows.schema.Column.{Column}
use Rattle.bt_form.specs.Trees.{Shape}
use Rattle.bt_fanout.specs.Entries.{Definition}
use Rattle.bt_show.specs.RecordTexts.{record_line}
use Rattle.bt_table.specs.Calls.{Load, step}
use Rattle.bt_table.specs.Indexes.{Index, is_complete}
use Rattle.bt_table.specs.Standing.{IsSoundTable}
use Rattle.bt_table.specs.Tables.{Intact, Lost, PlainTable, TableState}
use Rattle.bt_table.specs.declared.reply.Reply.{Reply}
use Rattle.bt_view.specs.Ranges.{scan}
use Rattle.bt_script.specs.Commands.{commands}
use Rattle.bt_shell.specs.Runs.{after_commands}
use Rattle.bt_shell.specs.Steps.{State}

-- ---- the text of rows

-- the header: the names of the columns as a record, and a line feed
abbrev pub header_line : List Column → List ℕ
header_line columns = record_text (map (λ c. c.name) columns) ++ codes "\n"

-- the dump of rows with these columns: the header, followed by the line of each row
abbrev pub dump_of : List Column → List (List Value) → List ℕ
dump_of columns rows = header_line columns ++ flat_map record_line rows

-- the rows that a table shows
abbrev pub AreShown : PlainTable → List (List Value) → Type 0
AreShown table rows = scan (Intact table) (codes "primary") None None ≡ Ok rows

-- ---- a snapshot

-- the length of the script: the number that the first eight bytes encode, the lowest byte first
abbrev pub script_length : List ℕ → ℕ
script_length payload = from_le_bytes w64 (take 8 payload)

-- the script, which follows
abbrev pub script_of : List ℕ → List ℕ
script_of payload = take (script_length payload) (drop 8 payload)

-- the text of the rows, which follows the script
abbrev pub text_of : List ℕ → List ℕ
text_of payload = drop (script_length payload) (drop 8 payload)

-- a table after it has loaded a text; without a table the load is refused, as a command of a script is
abbrev pub loaded_into : State → List ℕ → Result TableState Refusal
loaded_into None text = Err NoTable
loaded_into (Some table) text = map_ok (λ done. done.0) (step table (Load text))

-- the table that a snapshot restores: the one that its script makes, after it has loaded its text
abbrev pub restored : List ℕ → Result TableState Refusal
restored payload = loaded_into (after_commands None (commands (script_of payload))) (text_of payload)

-- ---- a table that is compacted

-- the name and the definition of an index
abbrev pub named_definition : Index → List ℕ × Definition
named_definition index = (index.name, index.def)

-- the definitions of a table: its columns, its shape, and the names and definitions of its indexes in order
abbrev pub definitions_of : PlainTable → Schema × Shape × List (List ℕ × Definition)
definitions_of table = (table.schema, table.shape, map named_definition table.indexes)

-- The new table has the definitions of the old one, whose indexes are complete. It is the table after some table has loaded the dump of the old one's rows.
pub record IsCompactedTable (old new : PlainTable) : Type 0 where
  pub definitions : definitions_of new ≡ definitions_of old
  pub complete : list_all is_complete old.indexes ≡ true
  pub sound : IsSoundTable new
  pub loaded : (rows : List (List Value)) → AreShown old rows →
      (from : PlainTable) × (reply : Reply) × (step (Intact from) (Load (dump_of old.schema.columns rows)) ≡ Ok (Intact new, reply))

-- the same of two states of a table, which are not lost
abbrev pub IsCompacted : TableState → TableState → Type 0
IsCompacted (Intact old) (Intact new) = IsCompactedTable old new
IsCompacted Lost new = ⊥
IsCompacted old Lost = ⊥
