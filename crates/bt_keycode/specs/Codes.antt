-- The key code of values, and which bytes are a code.
use Rattle.std.specs.Int.{bytes_high_first}
use Rattle.std.specs.Prelude.{ℕ, suc, ◌≡◌, ◌==◌, ◌+◌, ◌-◌, ◌^◌, ◌++◌, List, [], ◌∷◌, map, if◌then◌else◌, ℤ, pos, negsuc}
use Rattle.bt_value.specs.Values.{AreInRange}
use Rattle.bt_value.specs.Kinds.{Content, Number, Bytes, Bit, content_of}
pub use Rattle.bt_value.specs.Kinds.{kind_of}
use Rattle.bt_value.specs.declared.value.Kind.{Kind}
use Rattle.bt_value.specs.declared.value.Value.{Value}

-- an int plus 2^63, which inverts the sign bit of its 64 bits
abbrev pub raised : ℤ → ℕ
raised (pos n) = 2 ^ 63 + n
raised (negsuc n) = 2 ^ 63 - suc n

-- the eight bytes of a number, with the highest first
unfoldable pub eight_bytes : ℕ → List ℕ
eight_bytes n = bytes_high_first 8 n

-- bytes with 255 after each zero byte
abbrev pub escaped : List ℕ → List ℕ
escaped [] = []
escaped (b ∷ bs) = if b == 0 then 0 ∷ 255 ∷ escaped bs else b ∷ escaped bs

-- the code of a content: a number is eight bytes, big endian, with the sign bit inverted; bytes are followed by 0 and 1, with 255 after each
-- zero byte; a bit is one byte
abbrev pub code_of_content : Content → List ℕ
code_of_content (Number n) = eight_bytes (raised n)
code_of_content (Bytes bytes) = escaped bytes ++ (0 ∷ 1 ∷ [])
code_of_content (Bit bit) = (if bit then 1 else 0) ∷ []

-- the code of a value
abbrev pub code_of_value : Value → List ℕ
code_of_value v = code_of_content (content_of v)

-- the code of a list of values: the codes of the values, one after the other
abbrev pub code_of : List Value → List ℕ
code_of [] = []
code_of (v ∷ vs) = code_of_value v ++ code_of vs

-- two lists of values have the same kinds, place by place
abbrev pub HaveSameKinds : List Value → List Value → Type 0
HaveSameKinds left right = map kind_of left ≡ map kind_of right

-- a list is not a proper prefix of another
abbrev pub IsNoProperPrefix : List ℕ → List ℕ → Type 0
IsNoProperPrefix bytes other = (more : List ℕ) → other ≡ bytes ++ more → more ≡ []

-- bytes are the code of values of these kinds
pub record IsCodeOf (kinds : List Kind) (bytes : List ℕ) (values : List Value) : Type 0 where
  pub of_kinds : map kind_of values ≡ kinds
  pub in_range : AreInRange values
  pub code : code_of values ≡ bytes

-- bytes are the code of some values of these kinds
abbrev pub IsCode : List Kind → List ℕ → Type 0
IsCode kinds bytes = (values : List Value) × IsCodeOf kinds bytes values

-- bytes are not the code of any values of these kinds
abbrev pub IsNoCode : List Kind → List ℕ → Type 0
IsNoCode kinds bytes = (values : List Value) → IsCodeOf kinds bytes values → ⊥
