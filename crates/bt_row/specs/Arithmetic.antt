-- Arithmetic operations: the word of each, and its result.
use Rattle.std.specs.Prelude.{ℕ, ◌==◌, List, codes, Option, Some, None, if◌then◌else◌, ℤ, ◌+ℤ◌}
use Rattle.std.specs.Cmp.Lexicographic.{pointwise}
use Rattle.std.specs.Int.{int_max, int_min, saturate_to_bits}
use Rattle.bt_row.specs.declared.operations.op.Arithmetic.{Arithmetic}
use Rattle.bt_row.specs.declared.operations.op.Arithmetic.TheVariants as arithmetic
use Rattle.bt_row.specs.declared.operations.op.Op.{Op}
use Rattle.bt_row.specs.declared.operations.op.Op.TheVariants.{Add, Max, Min, Set}
use Rattle.bt_value.specs.declared.value.Value.{Value}
use Rattle.bt_value.specs.declared.value.Value.TheVariants as value

-- the word in the script language
abbrev pub word_of : Arithmetic → List ℕ
word_of arithmetic.Add = codes "add"
word_of arithmetic.Max = codes "max"
word_of arithmetic.Min = codes "min"

-- the arithmetic that a word of the script language names
abbrev pub arithmetic_of_word : List ℕ → Option Arithmetic
arithmetic_of_word word =
    if pointwise ◌==◌ word (codes "add") then Some arithmetic.Add
    else (if pointwise ◌==◌ word (codes "max") then Some arithmetic.Max
    else (if pointwise ◌==◌ word (codes "min") then Some arithmetic.Min else None))

-- an old int combined with a number: their sum, which stops at the smallest and the largest int of 64 bits; the larger; the smaller
abbrev pub new_number : Arithmetic → ℤ → ℤ → ℤ
new_number arithmetic.Add old n = saturate_to_bits 63 (old +ℤ n)
new_number arithmetic.Max old n = int_max old n
new_number arithmetic.Min old n = int_min old n

-- an old value combined with a number; a value that is not an int is unchanged
abbrev pub new_value : Arithmetic → ℤ → Value → Value
new_value arithmetic n (value.Int old) = value.Int (new_number arithmetic old n)
new_value arithmetic n other = other

-- ---- operations

-- an operation sets a value at a place, or combines the old value with a number
pub data Action : Type 0 where
  Sets : ℕ → Value → Action
  Makes : Arithmetic → ℕ → ℤ → Action

-- what an operation does
abbrev pub action_of : Op → Action
action_of (Set place new) = Sets place new
action_of (Add place n) = Makes arithmetic.Add place n
action_of (Max place n) = Makes arithmetic.Max place n
action_of (Min place n) = Makes arithmetic.Min place n

-- the arithmetic operation with these parts
abbrev pub op_making : Arithmetic → ℕ → ℤ → Op
op_making arithmetic.Add place n = Add place n
op_making arithmetic.Max place n = Max place n
op_making arithmetic.Min place n = Min place n
