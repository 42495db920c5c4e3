-- What rows and the values of an index define for the messages to them.
use Rattle.std.specs.List.{sum_by}
use Rattle.std.specs.Prelude.{ℕ, List, length, map}
use Rattle.bt_keycode.specs.Codes.{code_of}
use Rattle.bt_keycode.specs.Lengths.{op_length}
use Rattle.bt_message.specs.Effects.{merged_entry}
use Rattle.bt_message.specs.Terms.{Terms}
use Rattle.bt_row.specs.Ops.{Change, argument_of, merged}
use Rattle.bt_value.specs.declared.value.Value.{Value}

-- a put, and what goes to an index: the key code of all values
abbrev pub row_payload : List Value → ℕ
row_payload values = length (code_of values)

-- an upsert of a row: for each operation two, and the key code of its argument
abbrev pub change_payload : Change → ℕ
change_payload change = sum_by op_length (map argument_of change.ops)

-- the messages to rows
abbrev pub row_terms : Terms (List Value) Change
row_terms = record { merged = merged; payload = row_payload; delta_payload = change_payload }

-- the messages to values of an index
abbrev pub entry_terms : Terms (List Value) (List Value)
entry_terms = record { merged = merged_entry; payload = row_payload; delta_payload = row_payload }
