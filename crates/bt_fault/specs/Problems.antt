-- What is wrong with a field.
use Rattle.std.specs.Prelude.{ℕ, ◌==◌, ◌%◌, Bool, false, List, [], ◌∷◌, length, nat_le, Option, Some, None, is_some, if◌then◌else◌}
use Rattle.std.specs.List.{list_all}
use Rattle.bt_value.specs.Hex.{digit_of}
use Rattle.bt_value.specs.Ints.{is_numeral}
use Rattle.bt_value.specs.Kinds.{value_of}
use Rattle.bt_value.specs.Texts.{most_value_bytes}
use Rattle.bt_value.specs.declared.value.Kind.{Kind}
use Rattle.bt_value.specs.declared.value.Kind.TheVariants as kind
use Rattle.bt_fault.specs.declared.problem.Problem.{Problem}
use Rattle.bt_fault.specs.declared.problem.Problem.TheVariants.{FieldCount, IntRange, KeyColumn, ManyMessages, NoColumn, NoFlag, NoHeader, NoHex}
use Rattle.bt_fault.specs.declared.problem.Problem.TheVariants.{NoInt, NoIntColumn, NoOperation, NoText, OddDigits, OtherName, SecondMark, TooLong}

-- one or more digits, after a minus sign if there is one
abbrev pub is_signed_numeral : List ℕ → Bool
is_signed_numeral [] = false
is_signed_numeral (b ∷ bs) = if b == 45 then is_numeral bs else is_numeral (b ∷ bs)

-- 0 to 9, a to f, A to F
abbrev pub is_hex_digit : ℕ → Bool
is_hex_digit b = is_some (digit_of b)

-- hexadecimal digits, and nothing else
abbrev pub is_hex : List ℕ → Bool
is_hex field = list_all is_hex_digit field

-- what is wrong with a field that encodes no bytes: a letter, the number of digits, or the number of bytes
abbrev pub bytes_problem : List ℕ → Problem
bytes_problem field = if is_hex field then (if length field % 2 == 0 then TooLong else OddDigits) else NoHex

-- what is wrong with a field that is no value of a kind
abbrev pub problem_in : Kind → List ℕ → Problem
problem_in kind.Int field = if is_signed_numeral field then IntRange else NoInt
problem_in kind.Text field = if nat_le (length field) most_value_bytes then NoText else TooLong
problem_in kind.Flag field = NoFlag
problem_in kind.Bytes field = bytes_problem field

-- what is wrong with a field as a value of a kind, if it is none
abbrev pub field_problem : Kind → List ℕ → Option Problem
field_problem kind field = if is_some (value_of kind field) then None else Some (problem_in kind field)

-- the number that a caller sees for what is wrong with a field
abbrev pub problem_number : Problem → ℕ
problem_number FieldCount = 1
problem_number NoInt = 2
problem_number IntRange = 3
problem_number TooLong = 4
problem_number NoText = 5
problem_number NoFlag = 6
problem_number NoHex = 7
problem_number OddDigits = 8
problem_number NoOperation = 9
problem_number NoColumn = 10
problem_number KeyColumn = 11
problem_number NoIntColumn = 12
problem_number ManyMessages = 13
problem_number SecondMark = 14
problem_number NoHeader = 15
problem_number OtherName = 16
