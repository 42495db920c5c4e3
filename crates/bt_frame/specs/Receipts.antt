-- What a reader gave when something arrived.
use Rattle.std.specs.Prelude.{ℕ, ◌≡◌, ◌<◌, ◌≤◌, ◌++◌, Bool, true, false, List, [], length, Option, Some}
use Rattle.std.specs.Io.KnownBytes.{IsAtEnd}
use Rattle.bt_script.specs.Streams.{Gave, source_of}
use Rattle.bt_script.specs.declared.counted.Counted.{Counted}
use Rattle.bt_frame.specs.Frames.{IsFirstArrival, header_at, header_size}
use Rattle.bt_frame.specs.declared.arrival.Arrival.{Arrival}
use Rattle.bt_frame.specs.declared.arrival.Arrival.TheVariants.{CutOff}

module _ {R : Type 0} (remaining : R → Option (List ℕ)) (old new : Counted R) where
  -- a reader gave at most this many bytes, fewer only if it has no more
  abbrev pub GaveUpTo : ℕ → List ℕ → Type 0
  GaveUpTo most bytes = Gave remaining old new bytes × (length bytes ≤ most) × (length bytes < most → IsAtEnd (remaining (source_of new)))

  -- a reader gave this many bytes, or fewer, and has no more
  abbrev pub PassesOver : Bool → ℕ → Type 0
  PassesOver true count = (bytes : List ℕ) × Gave remaining old new bytes × (length bytes ≡ count)
  PassesOver false count = (bytes : List ℕ) × Gave remaining old new bytes × (length bytes < count) × IsAtEnd (remaining (source_of new))

  -- a reader gave the bytes of what arrives first, and no byte after them; it has no more if the input ends within a frame
  abbrev pub Receives : ℕ → Arrival → List ℕ → Type 0
  Receives most arrival payload =
      (read : List ℕ) × Gave remaining old new read × IsFirstArrival most read arrival payload × (arrival ≡ CutOff → IsAtEnd (remaining (source_of new)))

  -- a reader gave the bytes of what arrives first after a header
  abbrev pub ReceivesUnder : ℕ → ℕ → ℕ → Arrival → List ℕ → Type 0
  ReceivesUnder most kind size arrival payload =
      (read : List ℕ) × Gave remaining old new read × (arrival ≡ CutOff → IsAtEnd (remaining (source_of new)))
      × ((header : List ℕ) → length header ≡ header_size → header_at header ≡ Some (kind, size) → IsFirstArrival most (header ++ read) arrival payload)

  -- a reader gave no bytes, and has none
  abbrev pub ReceivesNothing : Type 0
  ReceivesNothing = Gave remaining old new [] × IsAtEnd (remaining (source_of new))
