-- The packed layout, version 1: values, rows and headers as bytes. Numbers are little endian, and there are no pointers.
use Rattle.std.specs.Int.{cast_signed, cast_unsigned, from_le_bytes, to_le_bytes, w32, w64}
use Rattle.std.specs.Prelude.{ℕ, ℤ, ◌+◌, ◌==◌, ◌++◌, true, false, List, [], ◌∷◌, length, take, drop, nat_le, option_map}
use Rattle.std.specs.Prelude.{Option, Some, None, Result, Ok, Err, if◌then◌else◌}
use Rattle.std.specs.Cmp.Lexicographic.{pointwise}
use Rattle.bt_value.specs.Kinds.{Content, Number, Bytes, Bit, content_of, form_of, value_with}
use Rattle.bt_value.specs.Values.{takes_content}
use Rattle.bt_value.specs.declared.refusal.Refusal.{Refusal}
use Rattle.bt_value.specs.declared.refusal.Refusal.TheVariants.{BadField, Syntax}
use Rattle.bt_value.specs.declared.value.Form.{Form}
use Rattle.bt_value.specs.declared.value.Form.TheVariants as form
use Rattle.bt_value.specs.declared.value.Kind.{Kind}
use Rattle.bt_value.specs.declared.value.Value.{Value}
use Rattle.bt_row.specs.declared.rows.schema.Column.{Column}
use Rattle.bt_packed.specs.declared.fault.Fault.{Fault}

-- ---- from values to bytes

-- the eight bytes of an int, the lowest first
unfoldable pub int_bytes : ℤ → List ℕ
int_bytes n = to_le_bytes w64 (cast_unsigned w64 n)

-- an int is eight bytes; a text, or bytes, follow their length, which is one byte; a flag is one byte, 0 or 1
abbrev pub content_bytes : Content → List ℕ
content_bytes (Number n) = int_bytes n
content_bytes (Bytes bytes) = length bytes ∷ bytes
content_bytes (Bit bit) = (if bit then 1 else 0) ∷ []

-- the bytes of a value; its kind is that of its column, and is not written
abbrev pub value_bytes : Value → List ℕ
value_bytes v = content_bytes (content_of v)

-- the bytes of values, one after another
abbrev pub row_bytes : List Value → List ℕ
row_bytes [] = []
row_bytes (v ∷ vs) = value_bytes v ++ row_bytes vs

-- what packed bytes begin with: the letters B, T, V and the version, 1
abbrev pub magic : List ℕ
magic = 66 ∷ 84 ∷ 86 ∷ 1 ∷ []

-- ---- from bytes to values

-- a result and the bytes after it
abbrev pub Read : Type 0 → Type 0
Read X = X × List ℕ

-- the int that eight bytes encode
unfoldable pub int_from : List ℕ → ℤ
int_from bytes = cast_signed w64 (from_le_bytes w64 bytes)

-- the number that four bytes encode
unfoldable pub number_from : List ℕ → ℕ
number_from bytes = from_le_bytes w32 bytes

-- the int at the front of bytes, if there are eight of them
abbrev pub int_at : List ℕ → Option (Read ℤ)
int_at bytes = if nat_le 8 (length bytes) then Some (int_from bytes, drop 8 bytes) else None

-- the content of a form at the front of bytes, if they begin with one
abbrev pub content_at : Form → List ℕ → Option (Read Content)
content_at form.Number bytes = option_map (λ (read : Read ℤ). (Number read.0, read.1)) (int_at bytes)
content_at form.Bytes [] = None
content_at form.Bytes (len ∷ bytes) = if nat_le len (length bytes) then Some (Bytes (take len bytes), drop len bytes) else None
content_at form.Bit [] = None
content_at form.Bit (bit ∷ bytes) = if bit == 0 then Some (Bit false, bytes) else if bit == 1 then Some (Bit true, bytes) else None

-- the value of a kind with a content that was read, if the kind takes it: a text is UTF-8
abbrev pub value_taken : Kind → Option (Read Content) → Option (Read Value)
value_taken kind None = None
value_taken kind (Some read) = if takes_content kind read.0 then Some (value_with kind read.0, read.1) else None

-- the value of a kind at the front of bytes, if they begin with one
abbrev pub value_at : Kind → List ℕ → Option (Read Value)
value_at kind bytes = value_taken kind (content_at (form_of kind) bytes)

-- ---- faults

-- the next step on what was read, unless there was a fault
abbrev pub then_read : {X Y : Type 0} → (Read X → Result Y Fault) → Result (Read X) Fault → Result Y Fault
then_read next (Ok read) = next read
then_read next (Err fault) = Err fault

-- the result of a function on the value, if there is one
abbrev pub on_ok : {A B : Type 0} → (A → B) → Result A Fault → Result B Fault
on_ok make (Ok value) = Ok (make value)
on_ok make (Err fault) = Err fault

-- what was read, or this fault if there is nothing
abbrev pub or_fault : {X : Type 0} → Fault → Option X → Result X Fault
or_fault fault None = Err fault
or_fault fault (Some read) = Ok read

-- a refusal at a column of an item, both counted from 1; column 0 is none
abbrev pub fault_at : Refusal → ℕ → ℕ → Fault
fault_at refusal item column = record { refusal = refusal; item = item; column = column }

-- the bytes of an item are none of its layout
abbrev pub bad_bytes : ℕ → ℕ → Fault
bad_bytes item column = fault_at (BadField item) item column

-- the bytes do not begin with a header
abbrev pub no_header : Fault
no_header = fault_at Syntax 0 0

-- ---- rows and headers

-- the values of columns at the front of bytes, after those of the columns before, of which there are this many
abbrev pub values_from : ℕ → List Column → ℕ → List Value → List ℕ → Result (Read (List Value)) Fault
values_from item [] place row bytes = Ok (row, bytes)
values_from item (column ∷ columns) place row bytes =
    then_read (λ read. values_from item columns (place + 1) (row ++ read.0 ∷ []) read.1) (or_fault (bad_bytes item (place + 1)) (value_at column.kind bytes))

-- the values of columns at the front of bytes
abbrev pub values_at : ℕ → List Column → List ℕ → Result (Read (List Value)) Fault
values_at item columns bytes = values_from item columns 0 [] bytes

-- the number that a header has after the magic bytes, and the bytes after it
abbrev pub number_at : List ℕ → Option (Read ℕ)
number_at bytes = if nat_le 4 (length bytes) then Some (number_from bytes, drop 4 bytes) else None

abbrev pub header_at : List ℕ → Option (Read ℕ)
header_at bytes = if pointwise ◌==◌ (take 4 bytes) magic then number_at (drop 4 bytes) else None
