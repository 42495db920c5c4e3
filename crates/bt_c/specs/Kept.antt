-- The table of a session in a file: its state, and which calls of the file a host is to make.
use Rattle.std.specs.Prelude.{ℕ, ◌≡◌, ◌⊎◌, List, [], ◌++◌, false, Option, Some, None, length, option_map, slice_get}
use Rattle.std.specs.Option.{MatchOption}
use Rattle.bt_shell.specs.Steps.{State}
use Rattle.bt_engine.specs.Exchanges as exchanges
use Rattle.bt_file.specs.Calls.{Event}
use Rattle.bt_file.specs.Due.{AreDue, IsTaken, take_count_of}
use Rattle.bt_file.specs.Events.{contents_of, moment_of, original_of, outcome_of, outcome_since_of}
use Rattle.bt_journal.specs.Disks.{LeavesOnly, Only}
use Rattle.bt_journal.specs.Stores.{GroupValue, OpeningValue, StoreValue, ahead, disk_of, group_disk, group_head, group_state, head_in, opening_disk, opening_head, state_in, state_of}
use Rattle.bt_journal.specs.Stores.{Finds, IsBeforeOrAfterCheckpoint, IsBeforeOrAfterRun, IsKept}
use Rattle.bt_journal.specs.declared.disk.HostCall.{HostCall}
use Rattle.bt_journal.specs.declared.disk.HostCall.TheVariants as host
use Rattle.bt_journal.specs.declared.fault.Fault.{Fault}
use Rattle.bt_journal.specs.declared.fault.Fault.TheVariants as fault
use Rattle.bt_journal.specs.declared.head.Head.{Head}
use Rattle.bt_durable.specs.Once.{OnceState, is_compacted_once, once_after, once_reply}
use Rattle.bt_durable.specs.Joined.{are_requests}
use Rattle.bt_durable.specs.Payloads.{after_payload, replies_to, requests}
use Rattle.bt_c.specs.declared.file_call.CallInC.{CallInC}
use Rattle.bt_c.specs.declared.session.Session.{Session}
use Rattle.bt_c.specs.declared.status.Status.{Status}
use Rattle.bt_c.specs.declared.status.Status.TheVariants.{FileTooLong, NotATable, NotKept, OtherEngine, OtherFormat, OutOfMemory, Damaged}

-- a table, and what is known of requests by their ids
abbrev pub KeptState : Type 0
KeptState = OnceState State

-- no table, and no request
abbrev pub blank : KeptState
blank = (None, [])

-- the state after requests, whose frames follow one another
abbrev pub after_requests : KeptState → List ℕ → KeptState
after_requests = after_payload (once_after exchanges.after exchanges.reply exchanges.changes) (once_reply exchanges.after exchanges.reply exchanges.changes)

-- the frames of the replies to them
abbrev pub reply_frames : KeptState → List ℕ → List ℕ
reply_frames = replies_to (once_after exchanges.after exchanges.reply exchanges.changes) (once_reply exchanges.after exchanges.reply exchanges.changes)

-- the state of a file, whatever a crash has left of it
abbrev pub state_of_file : List ℕ → KeptState
state_of_file = state_of after_requests blank

-- what a contract sees of a table in a file: the list of the calls of the file, as if the host had made them, the state, the head of the file, and whether it is open
abbrev pub Kept : Type 0
Kept = StoreValue (List Event) KeptState

-- what it sees of a group: that list, the state, the head, whether the group is open, and the frames of the requests that were carried out
abbrev pub KeptGroup : Type 0
KeptGroup = GroupValue (List Event) KeptState

-- what it sees of a file that is being opened: the list of its calls, and the head that it is opened with
abbrev pub KeptOpening : Type 0
KeptOpening = OpeningValue (List Event)

-- a crash leaves the file as it is, and opening it finds the state
abbrev pub StaysInFile : Kept → Type 0
StaysInFile kept = IsKept contents_of outcome_of after_requests blank (head_in kept) (disk_of kept) (state_in kept)

-- Between two lists of calls, a host is to make these calls, which it takes at once. If it makes them in order, then a crash before, between, within or after them
-- leaves a file that has P.
pub record HandsOver (old new : List Event) (calls : List HostCall) (P : List ℕ → Type 0) : Type 0 where
  pub made : List Event
  pub due : AreDue made calls
  pub taken : IsTaken made new
  pub untaken : take_count_of made ≡ take_count_of old
  pub any_moment : LeavesOnly moment_of outcome_since_of old made P

-- a file is to be opened with this head, and nothing of it was read
pub record IsUnread (head : Head) (opening : KeptOpening) : Type 0 where
  pub no_call : opening_disk opening ≡ []
  pub head_is : opening_head opening ≡ head

-- the next bytes of a file were read, and no other call was made
pub record HasRead (old new : KeptOpening) (piece : List ℕ) : Type 0 where
  pub bytes : original_of (opening_disk new) ≡ original_of (opening_disk old) ++ piece
  pub head : opening_head new ≡ opening_head old
  pub no_step : moment_of (opening_disk new) ≡ moment_of (opening_disk old)
  pub untaken : take_count_of (opening_disk new) ≡ take_count_of (opening_disk old)

-- the file that these bytes were read of was opened
pub record IsOpened (opening : KeptOpening) (kept : Kept) (calls : List HostCall) : Type 0 where
  pub state : state_in kept ≡ state_of_file (original_of (opening_disk opening))
  pub stays : StaysInFile kept
  pub handed : HandsOver (opening_disk opening) (disk_of kept) calls (Finds after_requests blank (opening_head opening) (state_of_file (original_of (opening_disk opening))))

-- requests were carried out, with these replies
pub record HasRun (old new : Kept) (requests replies : List ℕ) (calls : List HostCall) : Type 0 where
  pub state : state_in new ≡ after_requests (state_in old) requests
  pub answer : replies ≡ reply_frames (state_in old) requests
  pub stays : StaysInFile new
  pub handed : HandsOver (disk_of old) (disk_of new) calls (IsBeforeOrAfterRun after_requests blank (head_in old) (contents_of (disk_of old)) requests)

-- the state was compacted, or is as it was
pub record HasCheckpoint (old new : Kept) (calls : List HostCall) : Type 0 where
  pub state : is_compacted_once exchanges.is_compacted (state_in old) (state_in new) ⊎ (state_in new ≡ state_in old)
  pub stays : StaysInFile new
  pub handed : HandsOver (disk_of old) (disk_of new) calls
      (IsBeforeOrAfterCheckpoint after_requests (is_compacted_once exchanges.is_compacted) blank (head_in old) (state_in old))

-- a group was begun
pub record HasBegun (kept : Kept) (group : KeptGroup) : Type 0 where
  pub state : group_state group ≡ state_in kept
  pub disk : group_disk group ≡ disk_of kept
  pub head : group_head group ≡ head_in kept
  pub none : ahead group ≡ []

-- requests of a group were carried out, with these replies, and no call of the file
pub record HasJoined (old new : KeptGroup) (requests replies : List ℕ) : Type 0 where
  pub state : group_state new ≡ after_requests (group_state old) requests
  pub answer : replies ≡ reply_frames (group_state old) requests
  pub disk : group_disk new ≡ group_disk old
  pub head : group_head new ≡ group_head old

-- bytes that have something that is no request are refused, and change nothing
abbrev pub IsRefused : KeptGroup → KeptGroup → List ℕ → Type 0
IsRefused old new bytes = (group_state new ≡ group_state old) × (are_requests (requests bytes) ≡ false)

-- The requests of a group are kept: a crash before, between, within or after the calls leaves a file of the state without all of them, or with all of them.
pub record HasCommitted (old : KeptGroup) (new : Kept) (calls : List HostCall) : Type 0 where
  pub state : state_in new ≡ group_state old
  pub joined : group_state old ≡ after_requests (state_of_file (contents_of (group_disk old))) (ahead old)
  pub stays : StaysInFile new
  pub handed : HandsOver (group_disk old) (disk_of new) calls (IsBeforeOrAfterRun after_requests blank (group_head old) (contents_of (group_disk old)) (ahead old))

-- ---- sessions

-- the head of a new file
abbrev pub head_with : ℕ → Head
head_with salt = record { format = 1; engine = 1; salt = salt }

-- a session has no table in a file, except of a group, and no call of a file is to be made
abbrev pub IsClosed : Session → Type 0
IsClosed session = (session.kept ≡ None) × (session.calls.items ≡ [])

-- it has none, and no group, and opens none either
abbrev pub HasNoFile : Session → Type 0
HasNoFile session = IsClosed session × (session.group ≡ None) × (session.opening ≡ None)

-- a call leaves the table in the file alone
abbrev pub SameFile : Session → Session → Type 0
SameFile old new = (new.kept ≡ old.kept) × (new.group ≡ old.group) × (new.opening ≡ old.opening) × (new.calls ≡ old.calls)

-- the table that is asked: that of the group, that in the file, or that of the session
abbrev pub asked_of : State → Option Kept → Option KeptGroup → State
asked_of table kept (Some group) = (group_state group).0
asked_of table (Some kept) None = (state_in kept).0
asked_of table None None = table

abbrev pub table_asked : Session → State
table_asked session = asked_of session.table session.kept session.group

-- what a call does with the tables in the files of two sessions
abbrev pub InFile : (Kept → Kept → Type 0) → Session → Session → Type 0
InFile Fact old new = MatchOption old.kept ⊥ (λ before. MatchOption new.kept ⊥ (Fact before))

-- a call of a file as C sees it: its kind, the offset or the new length, and the number of its bytes
abbrev pub call_in_c : HostCall → CallInC
call_in_c (host.Write at bytes) = record { kind = 0; at = at; length = length bytes.items }
call_in_c (host.Cut len) = record { kind = 1; at = len; length = 0 }
call_in_c (host.Replace bytes) = record { kind = 2; at = 0; length = length bytes.items }
call_in_c host.Sync = record { kind = 3; at = 0; length = 0 }

-- the bytes that it writes
abbrev pub bytes_of_call : HostCall → List ℕ
bytes_of_call (host.Write at bytes) = bytes.items
bytes_of_call (host.Cut len) = []
bytes_of_call (host.Replace bytes) = bytes.items
bytes_of_call host.Sync = []

-- the bytes of a call, if there is one
abbrev pub bytes_of_some : Option HostCall → List ℕ
bytes_of_some None = []
bytes_of_some (Some call) = bytes_of_call call

-- the bytes of the call at a place
abbrev pub bytes_at : List HostCall → ℕ → List ℕ
bytes_at calls place = bytes_of_some (slice_get calls place)

-- the result of a call that failed, in C
abbrev pub status_of : Fault → Status
status_of fault.OutOfMemory = OutOfMemory
status_of fault.Failed = OutOfMemory
status_of fault.TooLong = FileTooLong
status_of fault.Closed = NotKept
status_of fault.NotAJournal = NotATable
status_of fault.OtherFormat = OtherFormat
status_of fault.OtherEngine = OtherEngine
status_of fault.Damaged = Damaged
