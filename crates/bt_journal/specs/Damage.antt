-- Frames that are not what was written at their place.
use Rattle.std.specs.Prelude.{◌≡◌, ◌≢◌, ℕ, ◌<◌, ◌^◌, true, List, [], ◌∷◌, ◌++◌, Some, None}
use Rattle.std.specs.Int.{w64, to_le_bytes}
use Rattle.bt_journal.specs.Frames.{Begins, check_of, frame_of, frame_size, next_seed, payload_at, seed_after}
use Rattle.bt_journal.specs.Files.{is_damaged, recovered}
use Rattle.bt_journal.specs.Heads.{body_of, head_at, next_salt}
use Rattle.bt_journal.specs.declared.head.Head.{Head}

-- the frame of a payload, with other bytes in the place of the payload
abbrev pub frame_with : ℕ → List ℕ → List ℕ → List ℕ
frame_with seed payload bytes = to_le_bytes w64 (frame_size payload) ++ to_le_bytes w64 (check_of seed payload) ++ bytes

-- a file of a head and frames
pub record IsWhole (head : Head) (payloads : List (List ℕ)) (file : List ℕ) : Type 0 where
  pub fits : head.salt < 2 ^ 64
  pub begin : head_at file ≡ Some head
  pub follow : Begins head.salt payloads (body_of file) []

-- a payload of which one byte is not the one that was written
pub record IsChanged (front back : List ℕ) (was is : ℕ) : Type 0 where
  pub size : frame_size (front ++ was ∷ back) < 2 ^ 64
  pub written : was < 256
  pub read : is < 256
  pub other : was ≢ is

-- If one byte of a payload was changed, whichever it is, the file stands for the payloads before this one.
abbrev pub DamageIsNoticed : Type 0
DamageIsNoticed =
    (head : Head) (payloads : List (List ℕ)) (file front back after : List ℕ) (was is : ℕ) → IsWhole head payloads file → IsChanged front back was is
    → recovered (file ++ (frame_with (seed_after head.salt payloads) (front ++ was ∷ back) (front ++ is ∷ back) ++ after)) ≡ payloads

-- If one byte of a payload was changed, and a whole frame follows, the file is damaged.
abbrev pub DamageIsTold : Type 0
DamageIsTold =
    (head : Head) (payloads : List (List ℕ)) (file front back next after : List ℕ) (was is : ℕ) → IsWhole head payloads file → IsChanged front back was is → frame_size next < 2 ^ 64
    → let seed = seed_after head.salt payloads in
    let payload = front ++ was ∷ back in
    is_damaged (file ++ (frame_with seed payload (front ++ is ∷ back) ++ (frame_of (next_seed seed payload) next ++ after))) ≡ true

-- A frame that was written with one seed is no frame with another one.
abbrev pub SeedsTellFramesApart : Type 0
SeedsTellFramesApart =
    (seed other : ℕ) (payload after : List ℕ) → seed < 2 ^ 64 → other < 2 ^ 64 → seed ≢ other → frame_size payload < 2 ^ 64 → payload_at other (frame_of seed payload ++ after) ≡ None

-- The file that takes the place of another one has another salt.
abbrev pub SaltsAreNew : Type 0
SaltsAreNew = (salt : ℕ) → salt < 2 ^ 64 → next_salt salt ≢ salt
