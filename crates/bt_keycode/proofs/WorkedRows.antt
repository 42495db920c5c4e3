-- Examples of codes and of their lengths, computed from the definitions.
use Rattle.std.proofs.Common.{◌≡◌, true, false, [], ◌∷◌, pos, negsuc, refl, codes}
use Rattle.bt_row.specs.declared.operations.op.Op.TheVariants.{Add, Set}
use Rattle.bt_value.specs.declared.value.Value.TheVariants as value
use Rattle.bt_keycode.specs.Codes.{code_of, eight_bytes}
use Rattle.bt_value.specs.Hex.{hex_text}
use Rattle.bt_keycode.specs.Lengths.{byte_weight, change_code_length, code_length}

-- of 3
three : code_of (value.Int (pos 3) ∷ []) ≡ 128 ∷ 0 ∷ 0 ∷ 0 ∷ 0 ∷ 0 ∷ 0 ∷ 3 ∷ []
unfolding eight_bytes
three = refl

-- of -1
minus_one : code_of (value.Int (negsuc 0) ∷ []) ≡ 127 ∷ 255 ∷ 255 ∷ 255 ∷ 255 ∷ 255 ∷ 255 ∷ 255 ∷ []
unfolding eight_bytes
minus_one = refl

-- of 3 and -1, as text
both : hex_text (code_of (value.Int (pos 3) ∷ value.Int (negsuc 0) ∷ [])) ≡ codes "80000000000000037fffffffffffffff"
unfolding eight_bytes
both = refl

-- of the text `a` and 1
text_and_one : hex_text (code_of (value.Text (codes "a") ∷ value.Int (pos 1) ∷ [])) ≡ codes "6100018000000000000001"
unfolding eight_bytes
text_and_one = refl

-- of the text of `a` and a zero byte, and 0
zero_byte_and_zero : hex_text (code_of (value.Text (97 ∷ 0 ∷ []) ∷ value.Int (pos 0) ∷ [])) ≡ codes "6100ff00018000000000000000"
unfolding eight_bytes
zero_byte_and_zero = refl

-- of the empty text and -9223372036854775808
empty_and_least : hex_text (code_of (value.Text [] ∷ value.Int (negsuc 9223372036854775807) ∷ [])) ≡ codes "00010000000000000000"
unfolding eight_bytes
empty_and_least = refl

-- of bytes, as of a text
bytes : hex_text (code_of (value.Bytes [] ∷ value.Bytes (0 ∷ []) ∷ value.Bytes (0 ∷ 1 ∷ []) ∷ value.Bytes (255 ∷ []) ∷ [])) ≡ codes "000100ff000100ff010001ff0001"
bytes = refl

-- of flags and texts
false_and_empty : hex_text (code_of (value.Flag false ∷ value.Text [] ∷ [])) ≡ codes "000001"
false_and_empty = refl

true_and_empty : hex_text (code_of (value.Flag true ∷ value.Text [] ∷ [])) ≡ codes "010001"
true_and_empty = refl

false_and_text : hex_text (code_of (value.Flag false ∷ value.Text (codes "b") ∷ [])) ≡ codes "00620001"
false_and_text = refl

-- of an int, of a text with a zero byte and of a flag: 8, 4 and 1
lengths : code_length (value.Int (pos 3) ∷ value.Text (0 ∷ []) ∷ value.Flag true ∷ []) ≡ 13
unfolding eight_bytes
lengths = refl

-- of a change that sets a text and adds to an int: 2 + 4, and 2 + 8
change_length : change_code_length (record { base = []; ops = Set 1 (value.Text (codes "ab")) ∷ Add 2 (pos 1) ∷ [] }) ≡ 16
unfolding eight_bytes
change_length = refl

-- the largest weight is the limit
most : byte_weight 16777216 ≡ 16777215
most = refl
