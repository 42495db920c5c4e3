-- The states and actions of the record reader, compared with those that csv defines.
use Rattle.csv.specs.declared.parser.State as csv
use Rattle.csv.specs.declared.parser.State.TheVariants as st
use Rattle.csv.specs.declared.parser.Action as csv_act
use Rattle.csv.specs.declared.parser.Action.TheVariants as act
use Rattle.bt_record.specs.declared.csv_states.State.{State}
use Rattle.bt_record.specs.declared.csv_states.State.TheVariants as state
use Rattle.bt_record.specs.declared.csv_states.ByteAction.{ByteAction}
use Rattle.bt_record.specs.declared.csv_states.ByteAction.TheVariants as action

-- the same state of csv's reader
abbrev pub csv_state : State → csv.State
csv_state state.Record = st.StartRecord
csv_state state.Field = st.StartField
csv_state state.Plain = st.InField
csv_state state.Quoted = st.InQuoted
csv_state state.Quote = st.AfterQuote

-- the same action of csv's reader
abbrev pub csv_action : ByteAction → csv_act.Action
csv_action action.Skip = act.Skip
csv_action action.Copy = act.Copy
csv_action action.EndField = act.EndField
csv_action action.EndRecord = act.EndRecord
