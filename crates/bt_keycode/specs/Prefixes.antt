-- The first eight bytes of a key, which are compared as a number.
use Rattle.std.specs.Prelude.{ℕ, List}
use Rattle.bt_value.specs.Paddings.{padded}

-- the first eight bytes of a list, with zeros in place of missing ones
unfoldable pub first_eight : List ℕ → List ℕ
first_eight bytes = padded 8 bytes
