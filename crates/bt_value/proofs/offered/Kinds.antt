-- The laws that depend on the kind: its values and their contents, its tag, the bytes that it takes and what its fields encode.
-- All other proofs use these laws and the laws of forms.
use Rattle.std.proofs.Common.{◌≡◌, ℕ, ◌+◌, ◌<◌, ◌≤◌, ◌==◌, Bool, true, false, List, refl, sym, subst, arith, length, Option, Some, None, ℤ, w64, IfSome, if◌then◌else◌}
use Rattle.std.proofs.lemmas.Bool.{leb-true}
use Rattle.std.proofs.lemmas.Bool.Decides.{nat_tests}
use Rattle.std.specs.Prelude.{FitsSigned, option_and_then, option_map}
use Rattle.bt_value.specs.Hex.{bytes_of_hex}
use Rattle.bt_value.specs.Ints.{int_of}
use Rattle.bt_value.specs.Kinds.{Content, Number, Bytes, Bit, binary_of, content_of, default_of, flag_of, form_in, form_of, kind_of, kind_of_tag, tag_of, takes, text_read, value_of, value_with}
use Rattle.bt_value.specs.Values.{fits_kind, BytesFitKind, BytesFit, IsInRange, LiesInRange, same_kind, takes_content}
use Rattle.bt_value.specs.Texts.{is_binary, is_text, most_value_bytes}
use Rattle.bt_value.specs.declared.value.Form.TheVariants as form
use Rattle.bt_value.specs.declared.value.Kind.{Kind}
use Rattle.bt_value.specs.declared.value.Kind.TheVariants as kind
use Rattle.bt_value.specs.declared.value.Value.{Value}
use Rattle.bt_value.specs.declared.value.Value.TheVariants as value
use Rattle.bt_value.proofs.offered.Tests.{first_true}
use Rattle.bt_value.proofs.offered.IntRanges.{int_in_range}
use Rattle.bt_value.proofs.offered.Texts.{no_bytes, text_length}

-- ---- a value is its kind and its content

pub with_content : (v : Value) → value_with (kind_of v) (content_of v) ≡ v
with_content (value.Int n) = refl
with_content (value.Text bytes) = refl
with_content (value.Flag flag) = refl
with_content (value.Bytes bytes) = refl

pub form_held : (v : Value) → form_in (content_of v) ≡ form_of (kind_of v)
form_held (value.Int n) = refl
form_held (value.Text bytes) = refl
form_held (value.Flag flag) = refl
form_held (value.Bytes bytes) = refl

pub kind_with : (k : Kind) (c : Content) → kind_of (value_with k c) ≡ k
kind_with k c = grind arith

pub content_with : (k : Kind) (c : Content) → form_in c ≡ form_of k → content_of (value_with k c) ≡ c
content_with kind.Int (Number n) same = refl
content_with kind.Text (Bytes bytes) same = refl
content_with kind.Flag (Bit bit) same = refl
content_with kind.Bytes (Bytes bytes) same = refl
content_with k c same = absurd cc

-- ---- tags

pub tagged : (k : Kind) → kind_of_tag (tag_of k) ≡ k
tagged kind.Int = refl
tagged kind.Text = refl
tagged kind.Flag = refl
tagged kind.Bytes = refl

-- the next tag is that of a bit that is set
pub tagged_next : (k : Kind) → form_of k ≡ form.Bit → kind_of_tag (tag_of k + 1) ≡ k
tagged_next kind.Flag is = refl
tagged_next k is = absurd cc

pub low_tag : (k : Kind) → tag_of k < 255
low_tag kind.Int = omega arith
low_tag kind.Text = omega arith
low_tag kind.Flag = omega arith
low_tag kind.Bytes = omega arith

-- the tag of an int is 0, and no other kind has it
pub int_tag : (tag : ℕ) → kind_of_tag tag ≡ kind.Int → tag ≡ 0
int_tag tag is = by_tests (tag == 0) (tag == 1) (tag == 4) refl is
  where
    by_tests : (a b c : Bool) → (tag == 0) ≡ a → (if a then kind.Int else (if b then kind.Text else (if c then kind.Bytes else kind.Flag))) ≡ kind.Int → tag ≡ 0
    by_tests true b c test e = grind (arith, nat_tests)
    by_tests false true c test e = absurd cc
    by_tests false false true test e = absurd cc
    by_tests false false false test e = absurd cc

-- two kinds are the same if their tags are equal
pub tags_agree : (a b : Kind) → (tag_of a == tag_of b) ≡ same_kind a b
tags_agree kind.Int kind.Int = refl
tags_agree kind.Text kind.Text = refl
tags_agree kind.Flag kind.Flag = refl
tags_agree kind.Bytes kind.Bytes = refl
tags_agree a b = refl

-- ---- the same kind

pub same_kind-sound : (a b : Kind) → same_kind a b ≡ true → a ≡ b
same_kind-sound kind.Int kind.Int e = refl
same_kind-sound kind.Text kind.Text e = refl
same_kind-sound kind.Flag kind.Flag e = refl
same_kind-sound kind.Bytes kind.Bytes e = refl
same_kind-sound a b e = absurd cc

pub same_kind-itself : (k : Kind) → same_kind k k ≡ true
same_kind-itself kind.Int = refl
same_kind-itself kind.Text = refl
same_kind-itself kind.Flag = refl
same_kind-itself kind.Bytes = refl

-- ---- what kinds take

-- the bytes that a kind takes are no more than a value may have
pub taken_length : (k : Kind) (bytes : List ℕ) → takes k bytes ≡ true → length bytes ≤ most_value_bytes
taken_length kind.Text bytes is = text_length bytes is
taken_length kind.Bytes bytes is = leb-true (length bytes) most_value_bytes is
taken_length k bytes is = absurd cc

-- a value has at most that many bytes, if it has any
pub bytes_length : (v : Value) (bytes : List ℕ) → BytesFit v → Bytes bytes ≡ content_of v → length bytes ≤ most_value_bytes
bytes_length v bytes taken is = taken_length (kind_of v) bytes (subst (BytesFitKind (kind_of v)) (sym is) taken)

pub in_range_taken : (k : Kind) (c : Content) → LiesInRange k c → BytesFitKind k c
in_range_taken k (Number n) is = tt
in_range_taken k (Bytes bytes) is = is
in_range_taken k (Bit bit) is = tt

-- the bytes of a value within its range, if it has any, are a value of its kind
pub bytes_fit : (v : Value) → IsInRange v → BytesFit v
bytes_fit v is = in_range_taken (kind_of v) (content_of v) is

-- ---- values of a kind

-- a value that fits a kind is of this kind
pub fits_kind_of : (k : Kind) (v : Value) → fits_kind k v ≡ true → kind_of v ≡ k
fits_kind_of k v is = same_kind-sound (kind_of v) k (first_true (same_kind (kind_of v) k) (takes_content k (content_of v)) is)

pub default_fits : (k : Kind) → fits_kind k (default_of k) ≡ true
default_fits kind.Int = refl
default_fits kind.Text = no_bytes
default_fits kind.Flag = refl
default_fits kind.Bytes = refl

-- ---- what fields encode

int_fits : (o : Option ℤ) (v : Value) → option_map value.Int o ≡ Some v → fits_kind kind.Int v ≡ true
int_fits None v is = absurd cc
int_fits (Some n) v is = let e : value.Int n ≡ v = cc in rw (← e) refl

flag_fits : (o : Option Bool) (v : Value) → option_map value.Flag o ≡ Some v → fits_kind kind.Flag v ≡ true
flag_fits None v is = absurd cc
flag_fits (Some n) v is = let e : value.Flag n ≡ v = cc in rw (← e) refl

text_taken : (field : List ℕ) → IfSome (text_read field) (λ bytes. is_text bytes ≡ true)
text_taken field = by_test (is_text field) refl
  where
    by_test : (b : Bool) → is_text field ≡ b → IfSome (if b then Some field else None) (λ bytes. is_text bytes ≡ true)
    by_test true test = test
    by_test false test = tt

pub binary_taken : (field : List ℕ) → IfSome (binary_of field) (λ bytes. is_binary bytes ≡ true)
binary_taken field = by_bytes (bytes_of_hex field)
  where
    by_test : (bytes : List ℕ) (b : Bool) → is_binary bytes ≡ b → IfSome (if b then Some bytes else None) (λ bytes. is_binary bytes ≡ true)
    by_test bytes true test = test
    by_test bytes false test = tt

    by_bytes : (o : Option (List ℕ)) → IfSome (option_and_then (λ bytes. if is_binary bytes then Some bytes else None) o) (λ bytes. is_binary bytes ≡ true)
    by_bytes None = tt
    by_bytes (Some bytes) = by_test bytes (is_binary bytes) refl

text_fits : (o : Option (List ℕ)) (v : Value) → IfSome o (λ bytes. is_text bytes ≡ true) → option_map value.Text o ≡ Some v → fits_kind kind.Text v ≡ true
text_fits None v taken is = absurd cc
text_fits (Some bytes) v taken is = let e : value.Text bytes ≡ v = cc in rw (← e) taken

bytes_fits : (o : Option (List ℕ)) (v : Value) → IfSome o (λ bytes. is_binary bytes ≡ true) → option_map value.Bytes o ≡ Some v → fits_kind kind.Bytes v ≡ true
bytes_fits None v taken is = absurd cc
bytes_fits (Some bytes) v taken is = let e : value.Bytes bytes ≡ v = cc in rw (← e) taken

-- the value that a field encodes fits the kind
pub value_fits : (k : Kind) (field : List ℕ) (v : Value) → value_of k field ≡ Some v → fits_kind k v ≡ true
value_fits kind.Int field v is = int_fits (int_of field) v is
value_fits kind.Text field v is = text_fits (text_read field) v (text_taken field) is
value_fits kind.Flag field v is = flag_fits (flag_of field) v is
value_fits kind.Bytes field v is = bytes_fits (binary_of field) v (binary_taken field) is

-- ---- ranges

int_ranges : (o : Option ℤ) → IfSome o (FitsSigned w64) → IfSome (option_map value.Int o) IsInRange
int_ranges None h = tt
int_ranges (Some n) h = h

flag_ranges : (o : Option Bool) → IfSome (option_map value.Flag o) IsInRange
flag_ranges None = tt
flag_ranges (Some flag) = tt

text_ranges : (o : Option (List ℕ)) → IfSome o (λ bytes. is_text bytes ≡ true) → IfSome (option_map value.Text o) IsInRange
text_ranges None taken = tt
text_ranges (Some bytes) taken = taken

bytes_ranges : (o : Option (List ℕ)) → IfSome o (λ bytes. is_binary bytes ≡ true) → IfSome (option_map value.Bytes o) IsInRange
bytes_ranges None taken = tt
bytes_ranges (Some bytes) taken = taken

-- the value that a field encodes is within the range of the kind
pub value_in_range : (k : Kind) (field : List ℕ) → IfSome (value_of k field) IsInRange
value_in_range kind.Int field = int_ranges (int_of field) (int_in_range field)
value_in_range kind.Text field = text_ranges (text_read field) (text_taken field)
value_in_range kind.Flag field = flag_ranges (flag_of field)
value_in_range kind.Bytes field = bytes_ranges (binary_of field) (binary_taken field)

pub default_in_range : (k : Kind) → IsInRange (default_of k)
default_in_range kind.Int = record { sfits = omega arith }
default_in_range kind.Text = no_bytes
default_in_range kind.Flag = tt
default_in_range kind.Bytes = refl
