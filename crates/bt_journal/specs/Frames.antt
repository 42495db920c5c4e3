-- Frames: payloads in a file, each after its size and a sum, by which a frame that was cut short or changed is noticed.
use Rattle.std.specs.Prelude.{◌≡◌, ℕ, zero, suc, ◌+◌, ◌-◌, ◌*◌, ◌^◌, ◌%◌, ◌==◌, nat_le, ◌&&◌, if◌then◌else◌, List, [], ◌∷◌, ◌++◌, length, take, drop, replicate, Option, Some, None}
use Rattle.std.specs.Int.{w64, to_le_bytes, from_le_bytes}

-- a sum after one more byte: from two sums, or with two bytes, it is not the same
unfoldable pub mixed : ℕ → ℕ → ℕ
mixed sum byte = ((sum * 6364136223846793005) % 2 ^ 64 + (byte + 1)) % 2 ^ 64

-- a sum after these bytes
unfoldable pub sum_from : ℕ → List ℕ → ℕ
sum_from sum [] = sum
sum_from sum (byte ∷ bytes) = sum_from (mixed sum byte) bytes

-- how many bytes the frame of a payload takes
abbrev pub frame_size : List ℕ → ℕ
frame_size payload = 16 + length payload

-- the sum of a payload and of its size
unfoldable pub check_of : ℕ → List ℕ → ℕ
check_of seed payload = sum_from (sum_from seed (to_le_bytes w64 (frame_size payload))) payload

-- The sum of each frame begins with a seed of its own, which says where the frame is.
unfoldable pub next_seed : ℕ → List ℕ → ℕ
next_seed seed payload = (seed + frame_size payload) % 2 ^ 64

-- the frame of a payload
unfoldable pub frame_of : ℕ → List ℕ → List ℕ
frame_of seed payload = to_le_bytes w64 (frame_size payload) ++ to_le_bytes w64 (check_of seed payload) ++ payload

-- the number that the first eight bytes encode
unfoldable pub number_at : List ℕ → ℕ
number_at bytes = from_le_bytes w64 (take 8 bytes)

-- the payload of the size that the first eight bytes encode
abbrev pub body_at : List ℕ → List ℕ
body_at bytes = take (number_at bytes - 16) (drop 16 bytes)

-- The payload of the frame that these bytes begin with, if there is a whole one with the right sum. Zeros are no frame.
unfoldable pub payload_at : ℕ → List ℕ → Option (List ℕ)
payload_at seed bytes =
    if nat_le 16 (length bytes) && (nat_le 16 (number_at bytes) && (nat_le (number_at bytes) (length bytes) && (check_of seed (body_at bytes) == number_at (drop 8 bytes))))
    then Some (body_at bytes)
    else None

-- the payloads of the first frames, at most this many
unfoldable pub payloads_at : ℕ → ℕ → List ℕ → List (List ℕ)
payloads_at zero seed bytes = []
payloads_at (suc most) seed bytes =
    elim (payload_at seed bytes) [
      | None ↦ []
      | Some payload ↦ payload ∷ payloads_at most (next_seed seed payload) (drop (frame_size payload) bytes)
    ]

-- the payloads of all first frames, up to the place where there is no whole one
abbrev pub all_at : ℕ → List ℕ → List (List ℕ)
all_at seed bytes = payloads_at (length bytes) seed bytes

-- the seed after the frames of these payloads
unfoldable pub seed_after : ℕ → List (List ℕ) → ℕ
seed_after seed [] = seed
seed_after seed (payload ∷ payloads) = seed_after (next_seed seed payload) payloads

-- how many bytes the frames of these payloads take
unfoldable pub extent : List (List ℕ) → ℕ
extent [] = 0
extent (payload ∷ payloads) = frame_size payload + extent payloads

-- the bytes are the frames of these payloads, and then the rest
unfoldable pub Begins : ℕ → List (List ℕ) → List ℕ → List ℕ → Type 0
Begins seed [] bytes rest = bytes ≡ rest
Begins seed (payload ∷ payloads) bytes rest = (payload_at seed bytes ≡ Some payload) × Begins (next_seed seed payload) payloads (drop (frame_size payload) bytes) rest

-- the bytes are the frames of these payloads, and then zeros, which were written ahead of the next frames
abbrev pub IsFramed : ℕ → List (List ℕ) → List ℕ → Type 0
IsFramed seed payloads bytes = (zeros : ℕ) × Begins seed payloads bytes (replicate zeros 0)
