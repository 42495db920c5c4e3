-- Room in a list of bytes. It is reserved before the bytes are written.
use Rattle.std.specs.Prelude.{ℕ, ◌+◌, ◌*◌, ◌≤◌, length, Vec, vec_capacity, vec_len}
use Rattle.bt_value.specs.Kinds.{Content, Number, Bytes, Bit, content_of}
use Rattle.bt_value.specs.declared.value.Value.{Value}

module _ {X Z : Type 0} where
  -- there is room for this many more
  abbrev pub HasRoom : Vec X Z → ℕ → Type 0
  HasRoom list more = vec_len list + more ≤ vec_capacity list

  -- no more than this much of the room was taken
  abbrev pub TakesRoom : Vec X Z → Vec X Z → ℕ → Type 0
  TakesRoom old new most = vec_capacity old + vec_len new ≤ vec_capacity new + (vec_len old + most)

-- the most bytes that the text of a value takes: 20 for a number, two for each byte and two quotes, 5 for a bit
abbrev pub room_in : Content → ℕ
room_in (Number n) = 20
room_in (Bytes bytes) = 2 * length bytes + 2
room_in (Bit bit) = 5

abbrev pub room_of : Value → ℕ
room_of v = room_in (content_of v)
