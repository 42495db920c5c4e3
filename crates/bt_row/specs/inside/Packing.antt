-- Values one after another in a string of bytes.
use Rattle.std.specs.Int.{cast_signed, cast_unsigned, from_le_bytes, to_le_bytes, w64}
use Rattle.std.specs.Prelude.{ℕ, zero, suc, ◌≡◌, ◌<◌, ◌≤◌, ◌+◌, ◌==◌, ◌++◌, Bool, List, [], ◌∷◌, length, take, drop, get_or, if◌then◌else◌, ℤ}
use Rattle.bt_value.specs.Kinds.{Content, Number, Bytes, Bit, content_of, default_of, form_of, kind_of, kind_of_tag, tag_of, value_with}
use Rattle.bt_value.specs.Values.{AreInRange, IsInRange}
use Rattle.bt_value.specs.declared.value.Form.{Form}
use Rattle.bt_value.specs.declared.value.Form.TheVariants as form
use Rattle.bt_value.specs.declared.value.Kind.{Kind}
use Rattle.bt_value.specs.declared.value.Kind.TheVariants as kind
use Rattle.bt_value.specs.declared.value.Value.{Value}

-- ---- from values to bytes

-- the eight bytes of an int, the lowest first
unfoldable pub int_bytes : ℤ → List ℕ
int_bytes n = to_le_bytes w64 (cast_unsigned w64 n)

-- the int that eight bytes encode
unfoldable pub int_from : List ℕ → ℤ
int_from bytes = cast_signed w64 (from_le_bytes w64 bytes)

-- a kind's tag and the bytes of a content: eight bytes for a number; for bytes, their length and the bytes; a bit is added to the tag
abbrev pub packed_content : ℕ → Content → List ℕ
packed_content tag (Number n) = tag ∷ int_bytes n
packed_content tag (Bytes bytes) = tag ∷ length bytes ∷ bytes
packed_content tag (Bit bit) = (if bit then tag + 1 else tag) ∷ []

-- the bytes of a value
abbrev pub packed_value : Value → List ℕ
packed_value v = packed_content (tag_of (kind_of v)) (content_of v)

-- the bytes of values, one after another
abbrev pub packed_values : List Value → List ℕ
packed_values [] = []
packed_values (v ∷ vs) = packed_value v ++ packed_values vs

-- ---- from bytes to values

-- how many bytes a value of a form takes, given the bytes after its tag
abbrev pub width_in : Form → List ℕ → ℕ
width_in form.Number bytes = 9
width_in form.Bytes bytes = get_or bytes 0 0 + 2
width_in form.Bit bytes = 1

-- how many bytes the first value takes
abbrev pub width_of : List ℕ → ℕ
width_of [] = 0
width_of (tag ∷ bytes) = width_in (form_of (kind_of_tag tag)) bytes

-- the content of a value of a form, given whether a bit is set, and the bytes after the tag
abbrev pub content_at : Form → Bool → List ℕ → Content
content_at form.Number is_set bytes = Number (int_from bytes)
content_at form.Bytes is_set bytes = Bytes (take (get_or bytes 0 0) (drop 1 bytes))
content_at form.Bit is_set bytes = Bit is_set

-- the value of a kind whose bytes begin with this tag
abbrev pub value_tagged : Kind → ℕ → List ℕ → Value
value_tagged kind tag bytes = value_with kind (content_at (form_of kind) (tag == tag_of kind + 1) bytes)

-- the first value
abbrev pub first_of : List ℕ → Value
first_of [] = default_of kind.Flag
first_of (tag ∷ bytes) = value_tagged (kind_of_tag tag) tag bytes

-- the first values, at most this many
unfoldable pub unpacked_by : ℕ → List ℕ → List Value
unpacked_by zero bytes = []
unpacked_by (suc most) [] = []
unpacked_by (suc most) (b ∷ bs) = first_of (b ∷ bs) ∷ unpacked_by most (drop (width_of (b ∷ bs)) (b ∷ bs))

-- all values
unfoldable pub unpacked : List ℕ → List Value
unpacked bytes = unpacked_by (length bytes) bytes

-- bytes are those of a list of values within range
pub record IsPacked (bytes : List ℕ) : Type 0 where
  pub in_range : AreInRange (unpacked bytes)
  pub same : packed_values (unpacked bytes) ≡ bytes

-- where a value begins, or the end if there are fewer values
abbrev pub offset_of : ℕ → List Value → ℕ
offset_of place vs = length (packed_values (take place vs))

-- the first value of bytes that have one
pub record HasFirst (bytes : List ℕ) : Type 0 where
  pub within : width_of bytes ≤ length bytes
  pub some : 0 < width_of bytes
  pub width : length (packed_value (first_of bytes)) ≡ width_of bytes
  pub front : packed_value (first_of bytes) ≡ take (width_of bytes) bytes
  pub values : unpacked bytes ≡ first_of bytes ∷ unpacked (drop (width_of bytes) bytes)
  pub in_range : IsInRange (first_of bytes)
  pub rest : IsPacked (drop (width_of bytes) bytes)

-- the value at a place, counted from 0, begins at this byte; or both are the end
pub record IsAt (bytes : List ℕ) (place at : ℕ) : Type 0 where
  pub within : at ≤ length bytes
  pub front : packed_values (take place (unpacked bytes)) ≡ take at bytes
  pub values : unpacked (drop at bytes) ≡ drop place (unpacked bytes)
  pub rest : IsPacked (drop at bytes)
