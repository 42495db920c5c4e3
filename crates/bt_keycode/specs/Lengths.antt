-- The lengths of key codes, as weights: numbers of bytes up to a largest one.
use Rattle.std.specs.List.{sum_by}
use Rattle.std.specs.Prelude.{ℕ, ◌+◌, List, length, map, min}
use Rattle.bt_row.specs.Ops.{Change, argument_of}
use Rattle.bt_value.specs.declared.value.Value.{Value}
use Rattle.bt_keycode.specs.Codes.{code_of, code_of_value}

-- the largest weight, in bytes
abbrev pub most_weight : ℕ
most_weight = 16777215

-- the weight of this many bytes: their number, or the largest weight if that is smaller
abbrev pub byte_weight : ℕ → ℕ
byte_weight n = min most_weight n

-- the length of the code of values, as a weight
abbrev pub code_length : List Value → ℕ
code_length values = byte_weight (length (code_of values))

-- the bytes of an operation with this argument: two, for what it does and for its column, and the code of the argument
abbrev pub op_length : Value → ℕ
op_length argument = 2 + length (code_of_value argument)

-- the bytes of the operations of a change, as a weight
abbrev pub change_code_length : Change → ℕ
change_code_length change = byte_weight (sum_by op_length (map argument_of change.ops))
