-- Frames as bytes, and what arrives on a stream of them. Numbers are little endian.
use Rattle.std.specs.Int.{from_le_bytes, to_le_bytes, w64}
use Rattle.std.specs.Prelude.{ℕ, zero, suc, ◌≡◌, ◌==◌, ◌<◌, ◌≤◌, ◌-◌, ◌^◌, ◌++◌, ◌&&◌, Bool, false, List, [], ◌∷◌, drop, get_or, length, nat_le, nat_lt, take, Option, None, Some, if◌then◌else◌}
use Rattle.std.specs.Cmp.Lexicographic.{pointwise}
use Rattle.bt_frame.specs.declared.arrival.Arrival.{Arrival}
use Rattle.bt_frame.specs.declared.arrival.Arrival.TheVariants.{CutOff, Frame, NoFrame, TooLong}

-- ---- frames

-- what a frame begins with: the letters B, T, F and the version of the layout, 1
abbrev pub magic : List ℕ
magic = 66 ∷ 84 ∷ 70 ∷ 1 ∷ []

-- the eight bytes of a number, the lowest first
unfoldable pub number_bytes : ℕ → List ℕ
number_bytes n = to_le_bytes w64 n

-- a frame: the magic bytes, the length of the payload, the kind in one byte, and the payload
abbrev pub frame : ℕ → List ℕ → List ℕ
frame kind payload = magic ++ (number_bytes (length payload) ++ kind ∷ payload)

-- ---- what arrives

-- the number of bytes before the payload
abbrev pub header_size : ℕ
header_size = 13

-- the number that the first eight bytes encode
unfoldable pub number_from : List ℕ → ℕ
number_from bytes = from_le_bytes w64 bytes

-- the kind and the length of the payload that a header gives, if bytes are one
abbrev pub header_at : List ℕ → Option (ℕ × ℕ)
header_at bytes = if pointwise ◌==◌ (take 4 bytes) magic then Some (get_or bytes 12 0, number_from (drop 4 bytes)) else None

-- something that arrives, its payload, which is empty unless it is a frame, and the bytes after it
abbrev pub Arrived : Type 0
Arrived = Arrival × List ℕ × List ℕ

-- where the input ends within a frame, or no header is found, nothing more arrives
abbrev pub last : Arrival → Arrived
last arrival = (arrival, [], [])

-- a header, and the bytes after it; a payload has at most a number of bytes
abbrev pub arrived_under : ℕ → Option (ℕ × ℕ) → List ℕ → Arrived
arrived_under most None bytes = last NoFrame
arrived_under most (Some header) bytes =
    if nat_lt (length bytes) header.1 then last CutOff
    else if nat_le header.1 most then (Frame header.0, take header.1 bytes, drop header.1 bytes)
    else (TooLong, [], drop header.1 bytes)

-- a payload of this length is within a limit, and this many bytes have it whole
abbrev pub is_whole : ℕ → ℕ → ℕ → Bool
is_whole most size given = nat_le size most && nat_le size given

-- bytes begin with a whole frame whose payload has at most a number of bytes
abbrev pub begins_with_frame : ℕ → List ℕ → Bool
begins_with_frame most bytes =
    if nat_lt (length bytes) header_size then false
    else elim (header_at (take header_size bytes)) [
      | None ↦ false
      | Some header ↦ is_whole most header.1 (length bytes - header_size)
    ]

-- what arrives first
abbrev pub first_arrived : ℕ → List ℕ → Arrived
first_arrived most bytes = if nat_lt (length bytes) header_size then last CutOff else arrived_under most (header_at (take header_size bytes)) (drop header_size bytes)

-- all that arrives, in at most this many steps
unfoldable pub arrivals_in : ℕ → ℕ → List ℕ → List (Arrival × List ℕ)
arrivals_in zero most bytes = []
arrivals_in (suc steps) most [] = []
arrivals_in (suc steps) most (byte ∷ bytes) =
    let first = first_arrived most (byte ∷ bytes) in (first.0, first.1) ∷ arrivals_in steps most first.2

-- all that arrives of an input, each with its payload
abbrev pub arrivals : ℕ → List ℕ → List (Arrival × List ℕ)
arrivals most bytes = arrivals_in (length bytes) most bytes

-- the bytes that something arrives from, if these follow what was read of it
abbrev pub following : Arrival → List ℕ → List ℕ
following NoFrame rest = []
following other rest = rest

-- Bytes that were read are the first arrival of an input, in whatever way it goes on. It does not go on where it ends within a frame.
abbrev pub IsFirstArrival : ℕ → List ℕ → Arrival → List ℕ → Type 0
IsFirstArrival most read arrival payload =
    (rest : List ℕ) → (arrival ≡ CutOff → rest ≡ []) → arrivals most (read ++ rest) ≡ (arrival, payload) ∷ arrivals most (following arrival rest)

-- a frame that fits a limit arrives as it was sent
abbrev pub FramesArrive : Type 0
FramesArrive = (most kind : ℕ) (payload : List ℕ) → length payload ≤ most → most < 2 ^ 64 → IsFirstArrival most (frame kind payload) (Frame kind) payload
