-- Which bytes a value may have.
use Rattle.std.specs.Prelude.{ℕ, ◌&&◌, Bool, List, length, nat_le}
use Rattle.std.specs.Str.{is_utf8}

-- the most bytes of a value or of a name
abbrev pub most_value_bytes : ℕ
most_value_bytes = 255

-- whether bytes are a text of a column: UTF-8, and at most 255 bytes
abbrev pub is_text : List ℕ → Bool
is_text bytes = nat_le (length bytes) most_value_bytes && is_utf8 bytes

-- whether bytes are a binary string of a column: any, and at most 255 bytes
abbrev pub is_binary : List ℕ → Bool
is_binary bytes = nat_le (length bytes) most_value_bytes
