-- The reply to each arrival, and the table after it.
use Rattle.std.specs.Prelude.{ℕ, ◌++◌, Bool, false, is_ok, List, [], Option, None, Some, Result, Ok, Err, codes}
use Rattle.std.specs.Option.{MatchOption}
use Rattle.bt_value.specs.Refusals.{number_of}
use Rattle.bt_value.specs.declared.refusal.Refusal.TheVariants.{TableExists}
use Rattle.bt_script.specs.Commands.{commands}
use Rattle.bt_shell.specs.Runs.{after_commands}
use Rattle.bt_shell.specs.Steps.{State}
use Rattle.bt_snapshot.specs.Snapshots.{IsCompacted, restored}
use Rattle.bt_packed.specs.Calls.{of_call}
use Rattle.bt_packed.specs.Layout.{fault_at, on_ok}
use Rattle.bt_packed.specs.Questions.{answer_of, applied_to, reply_from}
use Rattle.bt_packed.specs.declared.fault.Fault.{Fault}
use Rattle.bt_frame.specs.Frames.{number_bytes}
use Rattle.bt_frame.specs.declared.arrival.Arrival.{Arrival}
use Rattle.bt_frame.specs.declared.arrival.Arrival.TheVariants.{CutOff, Frame, NoFrame, TooLong}
use Rattle.bt_engine.specs.Payloads.{check_payload, explain_payload, has_change, script_marks, script_payload}
use Rattle.bt_engine.specs.Requests.{request_of}
use Rattle.bt_engine.specs.declared.reply.ReplyStatus.{ReplyStatus}
use Rattle.bt_engine.specs.declared.reply.ReplyStatus.TheVariants.{Done, Invalid, Refused}
use Rattle.bt_engine.specs.declared.request.Request.{Request}
use Rattle.bt_engine.specs.declared.request.Request.TheVariants.{Apply, Ask, Check, Explain, Restore, Script}

-- ---- replies

-- the kind of the frame of a reply with this status
abbrev pub status_number : ReplyStatus → ℕ
status_number Done = 0
status_number Refused = 1
status_number Invalid = 2

-- the kind and the payload of a frame
abbrev pub Reply : Type 0
Reply = ℕ × List ℕ

abbrev pub done : List ℕ → Reply
done payload = (status_number Done, payload)

-- a refusal: its number, the item and the column at fault
abbrev pub refused : Fault → Reply
refused fault = (status_number Refused, number_bytes (number_of fault.refusal) ++ (number_bytes fault.item ++ number_bytes fault.column))

-- no request, for the reason of this name
abbrev pub invalid : List ℕ → Reply
invalid name = (status_number Invalid, name)

-- packed bytes, or the fault
abbrev pub replied : Result (List ℕ) Fault → Reply
replied (Ok bytes) = done bytes
replied (Err fault) = refused fault

-- ---- exchanges

-- the table after packed changes and the reply, or the same table and the fault
abbrev pub after_changes : State → Result State Fault → State × Reply
after_changes old (Ok new) = (new, done [])
after_changes old (Err fault) = (old, refused fault)

-- the table of a snapshot if there is no table, or the fault
abbrev pub restored_into : State → List ℕ → Result State Fault
restored_into None snapshot = on_ok Some (of_call (restored snapshot))
restored_into (Some table) snapshot = Err (fault_at TableExists 0 0)

-- a request that is carried out: the table after it, and its reply
abbrev pub carried_out : State → Request → List ℕ → State × Reply
carried_out state Script script = (after_commands state (commands script), done (script_payload state script))
carried_out state Check script = (state, done (check_payload state script))
carried_out state Apply changes = after_changes state (applied_to state changes)
carried_out state (Ask question) bytes = (state, replied (reply_from (answer_of question) state bytes))
carried_out state Explain script = (state, done (explain_payload state script))
carried_out state Restore snapshot = after_changes state (restored_into state snapshot)

-- a frame: of a request, or of none
abbrev pub of_frame : State → Option Request → List ℕ → State × Reply
of_frame state None payload = (state, invalid (codes "UnknownKind"))
of_frame state (Some request) payload = carried_out state request payload

-- the table after an arrival, and the reply
abbrev pub exchange : State → Arrival → List ℕ → State × Reply
exchange state (Frame kind) payload = of_frame state (request_of kind) payload
exchange state TooLong payload = (state, invalid (codes "TooLong"))
exchange state NoFrame payload = (state, invalid (codes "NoFrame"))
exchange state CutOff payload = (state, invalid (codes "CutOff"))

-- the table after an arrival
abbrev pub after : State → Arrival → List ℕ → State
after state arrival payload = (exchange state arrival payload).0

-- the reply to it
abbrev pub reply : State → Arrival → List ℕ → Reply
reply state arrival payload = (exchange state arrival payload).1

-- ---- changes

-- whether a request that is carried out may change the table: a script of which a command could, packed changes that are applied, or a snapshot that is restored
abbrev pub request_changes : State → Request → List ℕ → Bool
request_changes state Script script = has_change (script_marks state script)
request_changes state Check script = false
request_changes state Apply changes = is_ok (applied_to state changes)
request_changes state (Ask question) bytes = false
request_changes state Explain script = false
request_changes state Restore snapshot = is_ok (restored_into state snapshot)

-- whether a frame may
abbrev pub frame_changes : State → Option Request → List ℕ → Bool
frame_changes state None payload = false
frame_changes state (Some request) payload = request_changes state request payload

-- whether an arrival may
abbrev pub changes : State → Arrival → List ℕ → Bool
changes state (Frame kind) payload = frame_changes state (request_of kind) payload
changes state TooLong payload = false
changes state NoFrame payload = false
changes state CutOff payload = false

-- ---- compacted tables

-- a table was compacted; no table is not
abbrev pub is_compacted : State → State → Type 0
is_compacted old new = MatchOption old ⊥ (λ table. MatchOption new ⊥ (IsCompacted table))
