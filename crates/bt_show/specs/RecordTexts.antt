-- The records of rows as a text.
use Rattle.std.specs.Prelude.{ℕ, List, ◌++◌, codes, map}
use Rattle.bt_row.specs.RecordTexts.{record_text}
use Rattle.bt_value.specs.Values.{text_of}
use Rattle.bt_value.specs.declared.value.Value.{Value}

-- the line of a row: its record, and a line feed
abbrev pub record_line : List Value → List ℕ
record_line row = record_text (map text_of row) ++ codes "\n"
