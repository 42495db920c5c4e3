-- Decoding bytes as values.
use Rattle.std.specs.Prelude.{ℕ, List, Option, option_and_then}
use Rattle.bt_value.specs.declared.value.Kind.{Kind}
use Rattle.bt_value.specs.declared.value.Value.{Value}
use Rattle.bt_keycode.specs.inside.Readings.{first_values, if_coded}

-- The values of these kinds that bytes encode, if there are any. The bytes are read, and the result counts if its code is these bytes. No other
-- values have this code.
unfoldable pub decoded : List Kind → List ℕ → Option (List Value)
decoded kinds bytes = option_and_then (if_coded kinds bytes) (first_values kinds bytes)
