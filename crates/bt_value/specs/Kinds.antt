-- All definitions that depend on the kind: its form, its word, the bytes that it takes, how its fields are read and printed, and its default. Only arithmetic
-- operations and sums depend on the kind elsewhere: they ask whether a kind is int, or a value an int.
use Rattle.std.specs.Prelude.{ℕ, ◌==◌, Bool, true, false, List, [], codes, Option, Some, None, option_and_then, option_map, if◌then◌else◌, ℤ, pos}
use Rattle.std.specs.Cmp.Lexicographic.{pointwise}
use Rattle.std.specs.Fmt.{signed_decimal}
use Rattle.std.specs.Str.{str_eq_ignore_ascii_case}
use Rattle.bt_value.specs.Hex.{bytes_of_hex, hex_text}
use Rattle.bt_value.specs.Ints.{int_of}
use Rattle.bt_value.specs.Texts.{is_binary, is_text}
use Rattle.bt_value.specs.declared.value.Form.{Form}
use Rattle.bt_value.specs.declared.value.Form.TheVariants as form
use Rattle.bt_value.specs.declared.value.Kind.{Kind}
use Rattle.bt_value.specs.declared.value.Kind.TheVariants as kind
use Rattle.bt_value.specs.declared.value.Value.{Value}
use Rattle.bt_value.specs.declared.value.Value.TheVariants as value
use Rattle.bt_value.specs.declared.value.ValueRef.{ValueRef}
use Rattle.bt_value.specs.declared.value.ValueRef.TheVariants as seen

-- the value that a reference refers to
abbrev pub value_of_ref : ValueRef → Value
value_of_ref (seen.Int n) = value.Int n
value_of_ref (seen.Text bytes) = value.Text bytes.now
value_of_ref (seen.Flag flag) = value.Flag flag
value_of_ref (seen.Bytes bytes) = value.Bytes bytes.now

-- ---- forms: how values are kept, ordered and encoded

-- the content of a value: a number, bytes, or a bit
pub data Content : Type 0 where
  Number : ℤ → Content
  Bytes : List ℕ → Content
  Bit : Bool → Content

-- the form of a content
abbrev pub form_in : Content → Form
form_in (Number n) = form.Number
form_in (Bytes bytes) = form.Bytes
form_in (Bit bit) = form.Bit

-- the form of a kind
abbrev pub form_of : Kind → Form
form_of kind.Int = form.Number
form_of kind.Text = form.Bytes
form_of kind.Flag = form.Bit
form_of kind.Bytes = form.Bytes

-- the kind of a value
abbrev pub kind_of : Value → Kind
kind_of (value.Int n) = kind.Int
kind_of (value.Text bytes) = kind.Text
kind_of (value.Flag flag) = kind.Flag
kind_of (value.Bytes bytes) = kind.Bytes

-- whether two kinds are the same
abbrev pub same_kind : Kind → Kind → Bool
same_kind kind.Int kind.Int = true
same_kind kind.Text kind.Text = true
same_kind kind.Flag kind.Flag = true
same_kind kind.Bytes kind.Bytes = true
same_kind a b = false

-- the content of a value
abbrev pub content_of : Value → Content
content_of (value.Int n) = Number n
content_of (value.Text bytes) = Bytes bytes
content_of (value.Flag flag) = Bit flag
content_of (value.Bytes bytes) = Bytes bytes

-- the value of a column that was not set: 0, the empty text, false or no bytes
abbrev pub default_of : Kind → Value
default_of kind.Int = value.Int (pos 0)
default_of kind.Text = value.Text []
default_of kind.Flag = value.Flag false
default_of kind.Bytes = value.Bytes []

-- the value of a kind with this content, or the kind's default if the kind has another form
abbrev pub value_with : Kind → Content → Value
value_with kind.Int (Number n) = value.Int n
value_with kind.Text (Bytes bytes) = value.Text bytes
value_with kind.Flag (Bit flag) = value.Flag flag
value_with kind.Bytes (Bytes bytes) = value.Bytes bytes
value_with other content = default_of other

-- ---- the number that a row stores for a kind

-- a kind whose form is a bit has two numbers: this one if the bit is not set, and the next one if it is
abbrev pub tag_of : Kind → ℕ
tag_of kind.Int = 0
tag_of kind.Text = 1
tag_of kind.Flag = 2
tag_of kind.Bytes = 4

-- the kind that has a number
abbrev pub kind_of_tag : ℕ → Kind
kind_of_tag tag = if tag == 0 then kind.Int else (if tag == 1 then kind.Text else (if tag == 4 then kind.Bytes else kind.Flag))

-- ---- words

-- the kind that a word of the script language names
abbrev pub kind_of_word : List ℕ → Option Kind
kind_of_word word =
    if pointwise ◌==◌ word (codes "int") then Some kind.Int
    else (if pointwise ◌==◌ word (codes "text") then Some kind.Text
    else (if pointwise ◌==◌ word (codes "flag") then Some kind.Flag
    else (if pointwise ◌==◌ word (codes "bytes") then Some kind.Bytes else None)))

-- ---- range

-- whether bytes are a value of a kind
abbrev pub takes : Kind → List ℕ → Bool
takes kind.Text bytes = is_text bytes
takes kind.Bytes bytes = is_binary bytes
takes other bytes = false

-- ---- fields

-- the flag that a field encodes: true or false, in upper or lower case
abbrev pub flag_of : List ℕ → Option Bool
flag_of field =
    if str_eq_ignore_ascii_case field (codes "true") then Some true
    else (if str_eq_ignore_ascii_case field (codes "false") then Some false else None)

-- the field itself, if it is a text
abbrev pub text_read : List ℕ → Option (List ℕ)
text_read field = if is_text field then Some field else None

-- the bytes that a field encodes, if they are at most 255
abbrev pub binary_of : List ℕ → Option (List ℕ)
binary_of field = option_and_then (λ bytes. if is_binary bytes then Some bytes else None) (bytes_of_hex field)

-- whether a field encodes bytes other than its own, so that reading it needs an array to write them into
abbrev pub needs_room : Kind → Bool
needs_room kind.Bytes = true
needs_room other = false

-- the value that a field encodes in a column of a kind
abbrev pub value_of : Kind → List ℕ → Option Value
value_of kind.Int field = option_map value.Int (int_of field)
value_of kind.Text field = option_map value.Text (text_read field)
value_of kind.Flag field = option_map value.Flag (flag_of field)
value_of kind.Bytes field = option_map value.Bytes (binary_of field)

-- the text of a value
abbrev pub text_of : Value → List ℕ
text_of (value.Int n) = signed_decimal n
text_of (value.Text bytes) = bytes
text_of (value.Flag flag) = if flag then codes "true" else codes "false"
text_of (value.Bytes bytes) = hex_text bytes
