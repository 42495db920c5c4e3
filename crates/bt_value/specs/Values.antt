-- Values: their range and their order.
use Rattle.std.specs.Prelude.{◌≡◌, ◌==◌, ◌&&◌, Bool, true, false, List, [], ◌∷◌, FitsSigned}
use Rattle.std.specs.Bool.{beq}
use Rattle.std.specs.Ordering.{bool_cmp, int_cmp, int_eq, nat_cmp}
use Rattle.std.specs.declared.cmp.Ordering.{Ordering}
use Rattle.std.specs.declared.cmp.Ordering.TheVariants.{Equal}
use Rattle.std.specs.Cmp.Lexicographic.{pointwise, slice_cmp}
use Rattle.std.specs.Int.{w64}
use Rattle.bt_value.specs.Kinds.{Content, Number, Bytes, Bit, content_of, kind_of, takes}
pub use Rattle.bt_value.specs.Kinds.{default_of, flag_of, same_kind, text_of, value_of}
use Rattle.bt_value.specs.declared.value.Kind.{Kind}
use Rattle.bt_value.specs.declared.value.Value.{Value}

-- ---- order and range, by the form of a value

-- the order of the contents of two values of a kind: numbers by size, bytes byte by byte, false before true; contents of different forms count as equal
abbrev pub content_cmp : Content → Content → Ordering
content_cmp (Number a) (Number b) = int_cmp a b
content_cmp (Bytes a) (Bytes b) = slice_cmp nat_cmp a b
content_cmp (Bit a) (Bit b) = bool_cmp a b
content_cmp a b = Equal

-- the order of two values of a kind
abbrev pub value_cmp : Value → Value → Ordering
value_cmp a b = content_cmp (content_of a) (content_of b)

-- the order of lists of values, value by value
abbrev pub values_cmp : List Value → List Value → Ordering
values_cmp = slice_cmp value_cmp

-- whether two contents are the same
abbrev pub same_content : Content → Content → Bool
same_content (Number a) (Number b) = int_eq a b
same_content (Bytes a) (Bytes b) = pointwise ◌==◌ a b
same_content (Bit a) (Bit b) = beq a b
same_content a b = false

-- whether two values are the same
abbrev pub same_value : Value → Value → Bool
same_value a b = same_kind (kind_of a) (kind_of b) && same_content (content_of a) (content_of b)

-- whether two lists of values are the same
abbrev pub same_values : List Value → List Value → Bool
same_values = pointwise same_value

-- whether a kind takes a content of its form
abbrev pub takes_content : Kind → Content → Bool
takes_content kind (Number n) = true
takes_content kind (Bytes bytes) = takes kind bytes
takes_content kind (Bit bit) = true

-- whether a value is one of a kind
abbrev pub fits_kind : Kind → Value → Bool
fits_kind kind value = same_kind (kind_of value) kind && takes_content kind (content_of value)

-- bytes are a value of the kind; for a number and a bit there is nothing to say
abbrev pub BytesFitKind : Kind → Content → Type 0
BytesFitKind kind (Number n) = Unit {0}
BytesFitKind kind (Bytes bytes) = takes kind bytes ≡ true
BytesFitKind kind (Bit bit) = Unit {0}

-- the bytes of a value, if it has any, are a value of its kind
abbrev pub BytesFit : Value → Type 0
BytesFit v = BytesFitKind (kind_of v) (content_of v)

-- a content is within range: a number has 64 bits, and bytes are a value of the kind
abbrev pub LiesInRange : Kind → Content → Type 0
LiesInRange kind (Number n) = FitsSigned w64 n
LiesInRange kind (Bytes bytes) = takes kind bytes ≡ true
LiesInRange kind (Bit bit) = Unit {0}

-- a value is within the range of its kind
abbrev pub IsInRange : Value → Type 0
IsInRange v = LiesInRange (kind_of v) (content_of v)

-- each of them is
abbrev pub AreInRange : List Value → Type 0
AreInRange [] = Unit {0}
AreInRange (v ∷ vs) = IsInRange v × AreInRange vs
