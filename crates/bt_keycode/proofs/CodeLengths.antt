-- The lengths of codes: that of an int, and the largest of bytes and of any value, for `bytes_len` and `value_len`.
use Rattle.std.proofs.Common.{◌≡◌, ◌≤◌, ◌+◌, ◌*◌, ◌∷◌, ◌++◌, ◌∙◌, [], ℕ, zero, suc, ℤ, List, ap, arith, false, length, nat_eq, refl}
use Rattle.std.proofs.lemmas.List.{length-append}
use Rattle.std.specs.List.{list_any}
use Rattle.bt_value.specs.Kinds.{Content, Number, Bytes, Bit, content_of, kind_of}
use Rattle.bt_value.specs.Texts.{most_value_bytes}
use Rattle.bt_value.specs.Values.{BytesFitKind, BytesFit}
use Rattle.bt_value.specs.declared.value.Kind.{Kind}
use Rattle.bt_value.specs.declared.value.Value.{Value}
pub use Rattle.bt_value.proofs.offered.Kinds.{bytes_length}
use Rattle.bt_value.proofs.offered.Kinds.{taken_length}
use Rattle.bt_keycode.specs.Codes.{code_of_content, code_of_value, eight_bytes, escaped, raised}
use Rattle.bt_keycode.specs.inside.CodeBeginnings.{IsShort}
use Rattle.bt_keycode.proofs.Escapes.{escaped-first, escaped-kept, escaped_parts}

-- ---- bytes

-- a byte is escaped as at most two bytes
length-byte : (b : ℕ) → length (escaped (b ∷ [])) ≤ 2
length-byte zero = omega arith
length-byte (suc n) = omega (arith, ap length (escaped-kept n []))

escaped-bound : (bs : List ℕ) → length (escaped bs) ≤ 2 * length bs
escaped-bound [] = omega arith
escaped-bound (b ∷ bs) = omega (arith, ap length (escaped-first b bs) ∙ length-append (escaped (b ∷ [])) (escaped bs), length-byte b, escaped-bound bs)

-- the bytes of a value are escaped as at most 510 bytes
pub short_escaped : (bytes : List ℕ) → length bytes ≤ most_value_bytes → length (escaped bytes) ≤ 510
short_escaped bytes few = omega (arith, escaped-bound bytes, few)

-- the first part of bytes with the zero byte after it, and the rest
pub one_part : (rest part following : List ℕ) → rest ≡ part ++ 0 ∷ following → list_any (λ b. nat_eq b 0) part ≡ false → length (escaped rest) ≡ length part + 2 + length (escaped following)
one_part rest part following whole none = omega (arith, ap length (escaped_parts rest part following whole none), length-append part (0 ∷ 255 ∷ escaped following))

-- ---- values

-- the code of an int has eight bytes
pub length_int : (n : ℤ) → length (eight_bytes (raised n)) ≡ 8
unfolding eight_bytes
length_int n = refl

-- a value has no more bytes than it may have
few_taken : (k : Kind) (c : Content) → BytesFitKind k c → IsShort c
few_taken k (Number n) taken = tt
few_taken k (Bytes bytes) taken = taken_length k bytes taken
few_taken k (Bit bit) taken = tt

pub is_short : (v : Value) → BytesFit v → IsShort (content_of v)
is_short v taken = few_taken (kind_of v) (content_of v) taken

-- its code has at most 512 bytes
short_content : (c : Content) → IsShort c → length (code_of_content c) ≤ 512
short_content (Number n) short = omega (arith, length_int n)
short_content (Bytes bytes) short = omega (arith, length-append (escaped bytes) (0 ∷ 1 ∷ []), short_escaped bytes short)
short_content (Bit bit) short = omega arith

pub short_code : (v : Value) → BytesFit v → length (code_of_value v) ≤ 512
short_code v taken = short_content (content_of v) (is_short v taken)
