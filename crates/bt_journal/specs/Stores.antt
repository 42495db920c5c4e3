-- The state that a file stands for, and what a store is.
use Rattle.std.specs.Prelude.{◌≡◌, ◌⊎◌, ℕ, ◌+◌, Bool, List, [], ◌∷◌, ◌++◌, false, Option, Some, None}
use Rattle.bt_journal.specs.Disks.{Only}
use Rattle.bt_journal.specs.Frames.{Begins, extent, seed_after}
use Rattle.bt_journal.specs.Heads.{IsAccepted, IsAlike, body_of, head_at, head_size}
use Rattle.bt_journal.specs.Files.{recovered, is_damaged, IsCause, IsForged}
use Rattle.bt_journal.specs.Journals.{IsSettled}
use Rattle.bt_journal.specs.declared.fault.Fault.{Fault}
use Rattle.bt_journal.specs.declared.head.Head.{Head}
use Rattle.bt_journal.specs.declared.journal.Journal.{Journal}
use Rattle.bt_journal.specs.declared.replay.Replay.{Replay}

-- what a contract sees of a store: its file, the state of its machine, the head of its file, and whether it is open
abbrev pub StoreValue : Type 0 → Type 0 → Type 0
StoreValue D M = D × M × Head × Bool

abbrev pub disk_of : {D M : Type 0} → StoreValue D M → D
disk_of store = store.0

abbrev pub state_in : {D M : Type 0} → StoreValue D M → M
state_in store = store.1

abbrev pub head_in : {D M : Type 0} → StoreValue D M → Head
head_in store = store.2

abbrev pub is_open : {D M : Type 0} → StoreValue D M → Bool
is_open store = store.3

module _ {M : Type 0} (after : M → List ℕ → M) where
  -- the state after these payloads, one after the other
  abbrev pub after_all : M → List (List ℕ) → M
  after_all state [] = state
  after_all state (payload ∷ payloads) = after_all (after state payload) payloads

  -- the state that a file stands for, whatever a crash has left of it
  abbrev pub state_of : M → List ℕ → M
  state_of blank file = after_all blank (recovered file)

  -- opening a file with this head finds this state: the file is accepted, and is not damaged
  pub record Finds (blank : M) (head : Head) (expected : M) (file : List ℕ) : Type 0 where
    pub accepted : IsAccepted head file
    pub state : state_of blank file ≡ expected
    pub sound : is_damaged file ≡ false

  -- opening a file finds the state before a payload or after it, unless there is a forgery of its frame
  abbrev pub IsBeforeOrAfterRun : M → Head → List ℕ → List ℕ → List ℕ → Type 0
  IsBeforeOrAfterRun blank head old payload file =
      Finds blank head (state_of blank old) file ⊎ Finds blank head (after (state_of blank old) payload) file ⊎ IsForged head (recovered old) payload file

  -- opening a file finds this state, or a state that is it compacted
  abbrev pub IsBeforeOrAfterCheckpoint : (M → M → Type 0) → M → Head → M → List ℕ → Type 0
  IsBeforeOrAfterCheckpoint is_compacted blank head state file =
      Finds blank head state file ⊎ ((compacted : M) × is_compacted state compacted × Finds blank head compacted file)

-- a crash leaves the file as it is, and opening it finds this state
abbrev pub IsKept : {D M : Type 0} → (D → List ℕ) → (D → List ℕ → Type 0) → (M → List ℕ → M) → M → Head → D → M → Type 0
IsKept contents outcome after blank head disk state = Only (contents disk) (outcome disk) × Finds after blank head state (contents disk)

-- what is true of an open store: its journal is settled, and the machine has the state of the file
pub record IsConsistent
    {D M : Type 0} (contents : D → List ℕ) (outcome : D → List ℕ → Type 0) (is_healthy : D → Bool) (after : M → List ℕ → M) (blank : M)
    (journal : Journal D) (machine : M) : Type 0 where
  pub settled : IsSettled contents outcome is_healthy journal
  pub same : machine ≡ state_of after blank (contents journal.disk)

-- ---- opening

module _ {M : Type 0} (after : M → List ℕ → M) (blank : M) where
  -- The bytes of a file with a head were read. The frames of these payloads, the first ones, have run, and the rest follows them.
  pub record HasFrames (payloads : List (List ℕ)) (file : List ℕ) (found : Head) (replay : Replay M) : Type 0 where
    pub head : head_at file ≡ Some found
    pub alike : IsAlike replay.head found
    pub begins : Begins found.salt payloads (body_of file) replay.rest.items
    pub state : replay.machine ≡ after_all after blank payloads
    pub end : replay.end ≡ head_size + extent payloads
    pub seed : replay.seed ≡ seed_after found.salt payloads

  -- the bytes of a file were read, and no head was among them
  pub record HasNoHead (file : List ℕ) (replay : Replay M) : Type 0 where
    pub none : head_at file ≡ None
    pub rest : replay.rest.items ≡ file
    pub state : replay.machine ≡ blank

  -- these bytes of a file were read, and all frames among them have run
  abbrev pub IsReplayedTo : Option Head → List ℕ → Replay M → Type 0
  IsReplayedTo None file replay = HasNoHead file replay
  IsReplayedTo (Some found) file replay = HasFrames (recovered file) file found replay

  abbrev pub IsReplayed : List ℕ → Replay M → Type 0
  IsReplayed file replay = IsReplayedTo replay.found file replay

-- a file that begins with these bytes is not opened
abbrev pub IsCauseFrom : Head → List ℕ → Fault → Type 0
IsCauseFrom head front fault = (more : List ℕ) → IsCause head (front ++ more) fault

-- what a contract sees of a file that is being opened: the file, and the head that it is opened with
abbrev pub OpeningValue : Type 0 → Type 0
OpeningValue D = D × Head

abbrev pub opening_disk : {D : Type 0} → OpeningValue D → D
opening_disk opening = opening.0

abbrev pub opening_head : {D : Type 0} → OpeningValue D → Head
opening_head opening = opening.1

-- ---- groups

-- what a contract sees of a group: the file, the state of the machine, the head of the file, whether the group is open, and the parts that have run, as one
abbrev pub GroupValue : Type 0 → Type 0 → Type 0
GroupValue D M = D × M × Head × Bool × List ℕ

abbrev pub group_disk : {D M : Type 0} → GroupValue D M → D
group_disk group = group.0

abbrev pub group_state : {D M : Type 0} → GroupValue D M → M
group_state group = group.1

abbrev pub group_head : {D M : Type 0} → GroupValue D M → Head
group_head group = group.2

abbrev pub is_group_open : {D M : Type 0} → GroupValue D M → Bool
is_group_open group = group.3

abbrev pub ahead : {D M : Type 0} → GroupValue D M → List ℕ
ahead group = group.4

-- what is true of an open group: its journal is settled, and the machine has the state of the file after the parts that have run
pub record IsJoined
    {D M : Type 0} (contents : D → List ℕ) (outcome : D → List ℕ → Type 0) (is_healthy : D → Bool) (after : M → List ℕ → M) (blank : M) (is_part : List ℕ → Type 0)
    (journal : Journal D) (machine : M) (ahead : List ℕ) : Type 0 where
  pub settled : IsSettled contents outcome is_healthy journal
  pub part : is_part ahead
  pub same : machine ≡ after (state_of after blank (contents journal.disk)) ahead
