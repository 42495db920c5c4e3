-- Bytes as hexadecimal text.
use Rattle.std.specs.Prelude.{ℕ, ◌+◌, ◌-◌, ◌*◌, ◌/◌, ◌%◌, ◌&&◌, Bool, List, [], ◌∷◌, nat_le, nat_lt, Option, Some, None, option_and_then, option_map, if◌then◌else◌}

-- ---- printed

-- a lower-case hexadecimal digit
abbrev pub hex_digit : ℕ → ℕ
hex_digit n = if nat_lt n 10 then 48 + n else 87 + n

-- two digits for each byte
abbrev pub hex_text : List ℕ → List ℕ
hex_text [] = []
hex_text (b ∷ bs) = hex_digit (b / 16) ∷ hex_digit (b % 16) ∷ hex_text bs

-- ---- read

-- whether a byte is within two bounds
abbrev lies_in : ℕ → ℕ → ℕ → Bool
lies_in low high b = nat_le low b && nat_le b high

-- the number of a hexadecimal digit, in upper or lower case
abbrev pub digit_of : ℕ → Option ℕ
digit_of b =
    if lies_in 48 57 b then Some (b - 48)
    else (if lies_in 97 102 b then Some (b - 87) else (if lies_in 65 70 b then Some (b - 55) else None))

-- the byte that two digits encode
abbrev pub byte_of : ℕ → ℕ → Option ℕ
byte_of high low = option_and_then (λ h. option_map (λ l. h * 16 + l) (digit_of low)) (digit_of high)

-- the bytes that hexadecimal digits encode, in upper or lower case, two digits for each byte; an odd number of digits encodes none
unfoldable pub bytes_of_hex : List ℕ → Option (List ℕ)
bytes_of_hex [] = Some []
bytes_of_hex (high ∷ []) = None
bytes_of_hex (high ∷ low ∷ digits) = option_and_then (λ b. option_map (λ bs. b ∷ bs) (bytes_of_hex digits)) (byte_of high low)
