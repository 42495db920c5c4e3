-- Numbers that operations read.
use Rattle.std.specs.Prelude.{Option, Some, None, ℤ}
use Rattle.bt_value.specs.declared.value.Value.{Value}
use Rattle.bt_value.specs.declared.value.Value.TheVariants as value

-- the number of a value, if it is an int
abbrev pub int_number : Value → Option ℤ
int_number (value.Int n) = Some n
int_number other = None
