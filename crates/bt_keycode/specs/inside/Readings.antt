-- Reading bytes piece by piece, with anything after them: the steps of `decoded`.
use Rattle.std.specs.Cmp.Lexicographic.{pointwise}
use Rattle.std.specs.Int.{from_be_bytes, w64}
use Rattle.std.specs.Prelude.{ℕ, zero, suc, ◌==◌, ◌-◌, ◌^◌, ◌&&◌, ◌++◌, Bool, true, List, [], ◌∷◌, drop, get_or, nat_le, nat_lt}
use Rattle.std.specs.Prelude.{take, Option, Some, None, option_and_then, option_map, if◌then◌else◌, ℤ, pos, negsuc}
use Rattle.std.specs.Str.{bytes_eq}
use Rattle.bt_value.specs.Kinds.{Content, Number, Bytes, Bit, content_of, form_of, value_with}
use Rattle.bt_value.specs.Values.{fits_kind}
use Rattle.bt_value.specs.declared.value.Form.{Form}
use Rattle.bt_value.specs.declared.value.Form.TheVariants as form
use Rattle.bt_value.specs.declared.value.Kind.{Kind}
use Rattle.bt_value.specs.declared.value.Value.{Value}
use Rattle.bt_keycode.specs.Codes.{code_of}

-- what was read from a code, with these bytes before it
abbrev pub after_bytes : List ℕ → Option (List ℕ × List ℕ) → Option (List ℕ × List ℕ)
after_bytes prefix None = None
after_bytes prefix (Some read) = Some (prefix ++ read.0, read.1)

-- the bytes whose code is at the start of a list of bytes, if there is one, and the bytes after the code
unfoldable pub unescaped : List ℕ → Option (List ℕ × List ℕ)
unescaped [] = None
unescaped (suc n ∷ bytes) = after_bytes (suc n ∷ []) (unescaped bytes)
unescaped (zero ∷ []) = None
unescaped (zero ∷ b ∷ bytes) = if b == 1 then Some ([], bytes) else (if b == 255 then after_bytes (0 ∷ []) (unescaped bytes) else None)

-- ---- values

-- an int that 2^63 was added to
abbrev pub lowered : ℕ → ℤ
lowered n = if nat_le (2 ^ 63) n then pos (n - 2 ^ 63) else negsuc (2 ^ 63 - suc n)

-- what is read as the content of this form, if the bytes begin with its code, and the bytes after it
abbrev pub first_content : Form → List ℕ → Option (Content × List ℕ)
first_content form.Number bytes = Some (Number (lowered (from_be_bytes w64 (take 8 bytes))), drop 8 bytes)
first_content form.Bytes bytes = option_map (λ read. (Bytes read.0, read.1)) (unescaped bytes)
first_content form.Bit bytes = Some (Bit (get_or bytes 0 0 == 1), drop 1 bytes)

-- what is read as the value of this kind, and the bytes after it
unfoldable pub first_value : Kind → List ℕ → Option (Value × List ℕ)
first_value kind bytes = option_map (λ read. (value_with kind read.0, read.1)) (first_content (form_of kind) bytes)

-- what is read as the values of these kinds, if the bytes begin with their code
unfoldable pub first_values : List Kind → List ℕ → Option (List Value)
first_values [] bytes = Some []
first_values (kind ∷ kinds) bytes = option_and_then (λ read. option_map (λ values. read.0 ∷ values) (first_values kinds read.1)) (first_value kind bytes)

-- ---- checking what was read

-- whether a content has 64 bits if it is a number
abbrev pub has_bits : Content → Bool
has_bits (Number (pos n)) = nat_lt n (2 ^ 63)
has_bits (Number (negsuc n)) = nat_lt n (2 ^ 63)
has_bits other = true

-- whether a value is of a kind and within its range
abbrev pub is_of_kind : Kind → Value → Bool
is_of_kind kind value = fits_kind kind value && has_bits (content_of value)

-- these values, if they are of these kinds and the bytes are their code
abbrev pub if_coded : List Kind → List ℕ → List Value → Option (List Value)
if_coded kinds bytes values = if pointwise is_of_kind kinds values && bytes_eq (code_of values) bytes then Some values else None
