-- The session of a handle, before and after a call.
use Rattle.std.specs.Prelude.{ℕ, ◌≡◌, ◌≢◌, ◌⊎◌, Bool, true, false, List, [], Option, Some, None, Result, Ok, Err, IfSome, is_some}
use Rattle.std.specs.Option.{MatchOption}
use Rattle.bt_value.specs.Refusals.{number_of}
use Rattle.bt_table.specs.Tables.{Intact, Lost, TableState}
use Rattle.bt_packed.specs.Questions.{KeepsOrLoses, reply_from}
use Rattle.bt_packed.specs.declared.fault.Fault.{Fault}
use Rattle.bt_shell.specs.Steps.{State}
use Rattle.bt_c.specs.Kept.{SameFile, table_asked}
use Rattle.bt_c.specs.declared.fault.FaultInC.{FaultInC}
use Rattle.bt_c.specs.declared.handle.Handle.{Handle}
use Rattle.bt_c.specs.declared.session.Session.{Session}
use Rattle.bt_c.specs.declared.status.Status.{Status}
use Rattle.bt_c.specs.declared.status.Status.TheVariants.{AlreadyOpen, Damaged, Done, FileTooLong, NotATable, NotKept, NotOpen, OtherEngine, OtherFormat, OutOfMemory, Refused, ReplyCut}

-- the session, if the handle is open
abbrev pub session_of : Handle → Option Session
session_of handle = handle.slot.value

-- a handle is open before and after a call, and this fact is true of its sessions
abbrev pub StaysOpen : Handle → Handle → (Session → Session → Type 0) → Type 0
StaysOpen old new Fact = MatchOption (session_of old) ⊥ (λ before. MatchOption (session_of new) ⊥ (Fact before))

-- whether a table was lost because memory ran out
abbrev pub is_lost : State → Bool
is_lost None = false
is_lost (Some Lost) = true
is_lost (Some (Intact table)) = false

-- the code in C for the result of a call
abbrev pub code_of : Status → ℕ
code_of Done = 0
code_of OutOfMemory = 1
code_of ReplyCut = 2
code_of NotOpen = 3
code_of AlreadyOpen = 4
code_of Refused = 5
code_of NotKept = 6
code_of FileTooLong = 7
code_of NotATable = 8
code_of OtherFormat = 9
code_of OtherEngine = 10
code_of Damaged = 11

-- ---- calls on packed bytes

-- a fault as C sees it
abbrev pub fault_of : Fault → FaultInC
fault_of fault = record { refusal = number_of fault.refusal; item = fault.item; column = fault.column }

-- an answer is this fault, which C sees, and it is not that memory ran out
abbrev pub IsFault : {T : Type 0} → Result T Fault → FaultInC → Type 0
IsFault answer seen = (fault : Fault) × (answer ≡ Err fault) × (seen ≡ fault_of fault)

-- a session has no places of replies and no refused commands
abbrev pub IsUnmarked : Session → Type 0
IsUnmarked session = (session.refused ≡ 0) × (session.marks.items ≡ [])

-- a session keeps its table, or has lost it
abbrev pub StaysOrIsLostIn : Session → Session → Type 0
StaysOrIsLostIn old new = KeepsOrLoses old.table new.table

-- What a call does that asks the table of a session, or that in its file, a question in packed bytes: which code it returns, the reply or the fault, and what it leaves. Without a
-- session it returns `NotOpen`, and the handle stays closed. Otherwise it returns `Done`, `OutOfMemory` or `Refused`, and the session keeps its table. After any
-- code but `Done` the replies are empty. No refused command is counted, and no reply has a place. Without a table the question is refused. A table in a file is left alone.
pub record IsAnswered (answer : TableState → List ℕ → Result (List ℕ) Fault) (bytes : List ℕ) (old new : Handle) (seen : FaultInC) (code : ℕ) : Type 0 where
  pub closed : session_of old ≡ None → (code ≡ code_of NotOpen) × (session_of new ≡ None)
  pub ends : is_some (session_of old) ≡ true → (code ≡ code_of Done) ⊎ (code ≡ code_of OutOfMemory) ⊎ (code ≡ code_of Refused)
  pub done : code ≡ code_of Done → StaysOpen old new (λ before after. reply_from answer (table_asked before) bytes ≡ Ok after.text.items)
  pub refused : code ≡ code_of Refused → StaysOpen old new (λ before _. IsFault (reply_from answer (table_asked before) bytes) seen)
  pub unanswered : code ≢ code_of Done → IfSome (session_of new) (λ session. session.text.items ≡ [])
  pub unmarked : IfSome (session_of new) IsUnmarked
  pub certain : IfSome (session_of old) (λ session. table_asked session ≡ None → code ≡ code_of Refused)
  pub table : is_some (session_of old) ≡ true → StaysOpen old new (λ before after. after.table ≡ before.table)
  pub file : is_some (session_of old) ≡ true → StaysOpen old new SameFile
