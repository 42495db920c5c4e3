-- Whole numbers as fields encode them.
use Rattle.std.specs.Prelude.{ℕ, ◌==◌, ◌&&◌, ◌+◌, ◌-◌, ◌*◌, ◌^◌, not, Bool, List, [], ◌∷◌, length, drop, get_or, Option, Some, None, option_map, nat_le, if◌then◌else◌, ℤ, pos, neg_ℤ}
use Rattle.std.specs.List.{list_all}

-- 0 to 9
abbrev pub is_digit : ℕ → Bool
is_digit b = nat_le 48 b && nat_le b 57

-- one or more digits, and nothing else
abbrev pub is_numeral : List ℕ → Bool
is_numeral text = not (length text == 0) && list_all is_digit text

-- the number that digits write when they follow those of n
abbrev pub digits_after : ℕ → List ℕ → ℕ
digits_after n [] = n
digits_after n (d ∷ ds) = digits_after (n * 10 + (d - 48)) ds

-- the number that digits write; leading zeros are allowed
abbrev pub number_written : List ℕ → ℕ
number_written digits = digits_after 0 digits

-- the number that a text of digits writes, if it is at most a limit
abbrev pub number_up_to : ℕ → List ℕ → Option ℕ
number_up_to most text = if is_numeral text && nat_le (number_written text) most then Some (number_written text) else None

-- the whole number of 64 bits that a field encodes: an optional minus sign, then digits
unfoldable pub int_of : List ℕ → Option ℤ
int_of field =
    if get_or field 0 0 == 45 then option_map (λ n. neg_ℤ (pos n)) (number_up_to (2 ^ 63) (drop 1 field))
    else option_map pos (number_up_to (2 ^ 63 - 1) field)
