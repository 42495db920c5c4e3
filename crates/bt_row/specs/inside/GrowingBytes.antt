-- Bytes that grow, which are kept in the value itself if they are few.
use Rattle.std.specs.Prelude.{ℕ, ◌≤◌, List, take}
use Rattle.bt_row.specs.declared.rows.growing_bytes.GrowingStorage.{GrowingStorage}
use Rattle.bt_row.specs.declared.rows.growing_bytes.GrowingStorage.TheVariants.{Short, Long}

-- the most bytes that are kept in the value itself
abbrev pub most_inline : ℕ
most_inline = 30

-- the bytes that are stored
abbrev pub bytes_of : GrowingStorage → List ℕ
bytes_of (Short short) = take short.len short.bytes
bytes_of (Long bytes) = bytes.items

-- no more bytes than there is room for
abbrev pub FitsInside : GrowingStorage → Type 0
FitsInside (Short short) = short.len ≤ most_inline
FitsInside (Long bytes) = Unit {0}
