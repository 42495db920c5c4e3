-- The start of bytes: the code of a value, or of a list of values.
use Rattle.std.specs.Int.{w64}
use Rattle.std.specs.Prelude.{ℕ, zero, suc, ◌≡◌, ◌++◌, ◌≤◌, List, [], ◌∷◌, length, map, Option, Some, None, FitsSigned}
use Rattle.bt_value.specs.Kinds.{Content, Number, Bytes, form_in}
use Rattle.bt_value.specs.Texts.{most_value_bytes}
use Rattle.bt_value.specs.Values.{AreInRange, IsInRange}
use Rattle.bt_value.specs.declared.value.Form.{Form}
use Rattle.bt_value.specs.declared.value.Kind.{Kind}
use Rattle.bt_value.specs.declared.value.Value.{Value}
use Rattle.bt_keycode.specs.Codes.{code_of, code_of_content, code_of_value, kind_of}

-- bytes begin with the code of a value of this kind, within range, followed by the rest
pub record BeginsWith (kind : Kind) (bytes : List ℕ) (value : Value) (rest : List ℕ) : Type 0 where
  pub of_kind : kind_of value ≡ kind
  pub in_range : IsInRange value
  pub code : code_of_value value ++ rest ≡ bytes

-- a content has 64 bits if it is a number
abbrev pub HasBits : Content → Type 0
HasBits (Number n) = FitsSigned w64 n
HasBits other = Unit {0}

-- a content has no more bytes than a value may have
abbrev pub IsShort : Content → Type 0
IsShort (Bytes bytes) = length bytes ≤ most_value_bytes
IsShort other = Unit {0}

-- bytes begin with the code of a content of this form, followed by the rest
pub record BeginsWithContent (form : Form) (bytes : List ℕ) (content : Content) (rest : List ℕ) : Type 0 where
  pub of_form : form_in content ≡ form
  pub bits : HasBits content
  pub code : code_of_content content ++ rest ≡ bytes

-- bytes do not begin with the code of any content of this form that a value may have
abbrev pub BeginsWithNoContent : Form → List ℕ → Type 0
BeginsWithNoContent form bytes = (content : Content) (rest : List ℕ) → BeginsWithContent form bytes content rest → IsShort content → ⊥

-- bytes begin with the code of values of these kinds, within range, followed by the rest
pub record BeginsWithAll (kinds : List Kind) (bytes : List ℕ) (values : List Value) (rest : List ℕ) : Type 0 where
  pub of_kinds : map kind_of values ≡ kinds
  pub in_range : AreInRange values
  pub code : code_of values ++ rest ≡ bytes

-- bytes do not begin with the code of any value of this kind
abbrev pub BeginsWithNo : Kind → List ℕ → Type 0
BeginsWithNo kind bytes = (value : Value) (rest : List ℕ) → BeginsWith kind bytes value rest → ⊥

-- bytes do not begin with the code of any values of these kinds
abbrev pub BeginsWithNone : List Kind → List ℕ → Type 0
BeginsWithNone kinds bytes = (values : List Value) (rest : List ℕ) → BeginsWithAll kinds bytes values rest → ⊥

-- the result of reading the end of the code of bytes
abbrev pub reading_at_end : List ℕ → Option (List ℕ × List ℕ)
reading_at_end (zero ∷ suc zero ∷ bytes) = Some ([], bytes)
reading_at_end other = None
