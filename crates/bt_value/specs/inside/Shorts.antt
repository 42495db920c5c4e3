-- Bytes, which are kept in the value itself if they are few.
use Rattle.std.specs.Prelude.{ℕ, ◌≡◌, ◌<◌, ◌≤◌, List, length, take}
use Rattle.bt_value.specs.Paddings.{padded}
use Rattle.bt_value.specs.declared.bytes.BytesStorage.{BytesStorage}
use Rattle.bt_value.specs.declared.bytes.BytesStorage.TheVariants.{Short, Long}

-- the most bytes that are kept in the value itself
abbrev pub most_short : ℕ
most_short = 22

abbrev pub bytes_of : BytesStorage → List ℕ
bytes_of (Short len bytes) = take len bytes
bytes_of (Long bytes) = bytes.value.items

-- few bytes are followed by zeros up to the size of the array; more bytes are kept elsewhere
abbrev pub FitsInside : BytesStorage → Type 0
FitsInside (Short len bytes) = (len ≤ most_short) × (bytes ≡ padded most_short (take len bytes))
FitsInside (Long bytes) = most_short < length bytes.value.items
