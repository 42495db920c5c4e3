use Rattle.std.proofs.Common.{◌≡◌, ◌≤◌, drop, length, []}
use Rattle.csv.specs.Machine.{next_record}
use Rattle.csv.specs.Reading.{default_config}
use Rattle.csv.specs.declared.parser.State.TheVariants as st
use Rattle.bt_record.specs.inside.Pieces.{LieWithin, pieces}
use Rattle.bt_record.specs.inside.CsvStates.{csv_state}
use Rattle.bt_record.proofs.csv_states.cut_quoted.Given as goal

-- the reader goes on with the rest of the text; the bytes from the start on are those of the current field
abbrev pub invariant-loop-byte : goal.invariant-loop-byte
invariant-loop-byte l = record {
  starts : l.start ≤ length l.bytes.items;
  within : LieWithin l.start l.spans.items;
  reads : next_record default_config st.StartRecord [] [] l.text
      ≡ next_record default_config (csv_state l.state) (pieces l.bytes.items l.spans.items) (drop l.start l.bytes.items) (drop l.byte-index l.text);
}
