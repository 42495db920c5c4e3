-- The head of a file: its first frame, which says what the others are.
use Rattle.std.specs.Prelude.{◌≡◌, ◌⊎◌, ℕ, ◌+◌, ◌^◌, ◌%◌, ◌==◌, if◌then◌else◌, List, [], ◌++◌, length, drop, Option, Some, None}
use Rattle.std.specs.Int.{w64, to_le_bytes}
use Rattle.bt_journal.specs.Frames.{frame_of, number_at, payload_at}
use Rattle.bt_journal.specs.declared.head.Head.{Head}

-- the seed of the first frame
abbrev pub head_seed : ℕ
head_seed = 1

-- how many bytes the first frame takes
abbrev pub head_size : ℕ
head_size = 40

-- the payload of the first frame
abbrev pub head_bytes : Head → List ℕ
head_bytes head = to_le_bytes w64 head.format ++ to_le_bytes w64 head.engine ++ to_le_bytes w64 head.salt

-- the first frame
abbrev pub head_frame : Head → List ℕ
head_frame head = frame_of head_seed (head_bytes head)

-- the head that a payload encodes
unfoldable pub head_of : List ℕ → Option Head
head_of payload =
    if length payload == 24
    then Some (record { format = number_at payload; engine = number_at (drop 8 payload); salt = number_at (drop 16 payload) })
    else None

-- the head of a file, if it has one
unfoldable pub head_at : List ℕ → Option Head
head_at file = elim (payload_at head_seed file) [
  | None ↦ None
  | Some payload ↦ head_of payload
]

-- the bytes of a file after its head
abbrev pub body_of : List ℕ → List ℕ
body_of file = drop head_size file

-- the salt of the file that takes the place of another one: none of its frames begins with a seed that a frame at the same place had
unfoldable pub next_salt : ℕ → ℕ
next_salt salt = (salt + 11400714819323198485) % 2 ^ 64

-- a file that may be opened: it is empty, or its head has this format and engine
abbrev pub IsAccepted : Head → List ℕ → Type 0
IsAccepted head file = (file ≡ []) ⊎ ((salt : ℕ) × (head_at file ≡ Some (record { format = head.format; engine = head.engine; salt = salt })))

-- a head with the format and the engine of another one
pub record IsAlike (head other : Head) : Type 0 where
  pub format : other.format ≡ head.format
  pub engine : other.engine ≡ head.engine
