-- The payloads that a file stands for, whatever a crash has left of it.
use Rattle.std.specs.Prelude.{◌≡◌, ◌≢◌, ◌⊎◌, ℕ, ◌+◌, ◌≤◌, ◌^◌, ◌%◌, Bool, true, false, ◌||◌, is_some, List, [], ◌∷◌, ◌++◌, length, drop, Some, None}
use Rattle.bt_journal.specs.Frames.{payload_at, all_at, seed_after, extent}
use Rattle.bt_journal.specs.Heads.{head_at, body_of, IsAccepted}
use Rattle.bt_journal.specs.declared.fault.Fault.{Fault}
use Rattle.bt_journal.specs.declared.fault.Fault.TheVariants.{Closed, Damaged, Failed, NotAJournal, OtherEngine, OtherFormat, OutOfMemory, TooLong}
use Rattle.bt_journal.specs.declared.head.Head.{Head}

-- the payloads of all frames after the head, up to the place where there is no whole one
unfoldable pub recovered : List ℕ → List (List ℕ)
recovered file = elim (head_at file) [
  | None ↦ []
  | Some head ↦ all_at head.salt (body_of file)
]

-- There is a frame after the first of these bytes, with the seed of its place. The number is the seed at the first byte.
unfoldable pub has_frame_after : ℕ → List ℕ → Bool
has_frame_after seed [] = false
has_frame_after seed (byte ∷ bytes) = is_some (payload_at ((seed + 1) % 2 ^ 64) bytes) || has_frame_after ((seed + 1) % 2 ^ 64) bytes

-- A file is damaged if there is a frame after the end of its frames. A crash leaves none there, since one frame is written at a time.
unfoldable pub is_damaged : List ℕ → Bool
is_damaged file = elim (head_at file) [
  | None ↦ false
  | Some head ↦ has_frame_after (seed_after head.salt (recovered file)) (drop (extent (recovered file)) (body_of file))
]

-- opening a file with this head finds these payloads: the file is accepted, and is not damaged
pub record Opens (head : Head) (payloads : List (List ℕ)) (file : List ℕ) : Type 0 where
  pub accepted : IsAccepted head file
  pub frames : recovered file ≡ payloads
  pub sound : is_damaged file ≡ false

-- An interrupted write left bytes that pass the test of a frame which was not written: with another payload at the place of the new frame, or at a later place.
-- Of random bytes one in 2^64 passes it at a place.
abbrev pub IsForged : Head → List (List ℕ) → List ℕ → List ℕ → Type 0
IsForged head payloads payload file =
    let seed = seed_after head.salt payloads in
    let tail = drop (extent payloads) (body_of file) in
    ((other : List ℕ) × (other ≢ payload) × (payload_at seed tail ≡ Some other)) ⊎ (has_frame_after seed tail ≡ true)

-- opening the file finds these payloads, with one more or without it, unless there is a forgery
abbrev pub IsBeforeOrAfter : Head → List (List ℕ) → List ℕ → List ℕ → Type 0
IsBeforeOrAfter head payloads payload file = Opens head payloads file ⊎ Opens head (payloads ++ payload ∷ []) file ⊎ IsForged head payloads payload file

-- opening the file finds these payloads, or one alone
abbrev pub IsSwapped : Head → List (List ℕ) → List ℕ → List ℕ → Type 0
IsSwapped head payloads payload file = Opens head payloads file ⊎ Opens head (payload ∷ []) file

-- a file has a head, and a number of it is another one than in this head
abbrev pub HasOther : (Head → ℕ) → Head → List ℕ → Type 0
HasOther number head file = (found : Head) × (head_at file ≡ Some found) × (number found ≢ number head)

-- what is true if a file is not opened with this head, by the fault
abbrev pub IsCause : Head → List ℕ → Fault → Type 0
IsCause head file OutOfMemory = Unit {0}
IsCause head file Failed = Unit {0}
IsCause head file TooLong = 2 ^ 62 ≤ length file
IsCause head file Closed = ⊥
IsCause head file NotAJournal = head_at file ≡ None
IsCause head file OtherFormat = HasOther (λ h. h.format) head file
IsCause head file OtherEngine = HasOther (λ h. h.engine) head file
IsCause head file Damaged = is_damaged file ≡ true

-- whether a fault says that a file is not one to be opened
abbrev pub is_refusal : Fault → Bool
is_refusal OutOfMemory = false
is_refusal Failed = false
is_refusal TooLong = false
is_refusal Closed = false
is_refusal NotAJournal = true
is_refusal OtherFormat = true
is_refusal OtherEngine = true
is_refusal Damaged = true
