-- Keys, their order, limits, and lists sorted by key.
use Rattle.std.specs.Cmp.Lexicographic.{slice_cmp}
use Rattle.std.specs.Ordering.{is_lt, nat_cmp}
use Rattle.std.specs.Prelude.{ℕ, ◌≡◌, Bool, true, false, not, ◌&&◌, List, [], ◌∷◌, Option, Some, None}
use Rattle.std.specs.declared.cmp.Ordering.{Ordering}

-- a key is a list of bytes
abbrev pub Key : Type 0
Key = List ℕ

-- keys are ordered byte by byte, with a prefix before any longer key
abbrev pub key_cmp : Key → Key → Ordering
key_cmp = slice_cmp nat_cmp

-- whether one key comes before another
abbrev pub is_before : Key → Key → Bool
is_before a b = is_lt (key_cmp a b)

-- ---- limits

-- whether a key comes before a lower limit; none does if there is no limit
abbrev pub is_before_lower : Option Key → Key → Bool
is_before_lower None k = false
is_before_lower (Some low) k = is_before k low

-- whether a key comes before an upper limit; each does if there is no limit
abbrev pub is_before_upper : Option Key → Key → Bool
is_before_upper None k = true
is_before_upper (Some high) k = is_before k high

-- whether a key is at or after the lower limit and before the upper one
abbrev pub is_between : Option Key → Option Key → Key → Bool
is_between low high k = not (is_before_lower low k) && is_before_upper high k

-- a key is at or after a lower limit
abbrev pub IsFrom : Option Key → Key → Type 0
IsFrom low k = is_before_lower low k ≡ false

-- a key is before an upper limit
abbrev pub IsBelow : Option Key → Key → Type 0
IsBelow high k = is_before_upper high k ≡ true

-- a key is after a lower limit, if there is one
abbrev pub IsPast : Option Key → Key → Type 0
IsPast None k = Unit {0}
IsPast (Some low) k = is_before low k ≡ true

-- a key is at or after the lower limit and before the upper one
pub record Within (low high : Option Key) (k : Key) : Type 0 where
  pub from : IsFrom low k
  pub below : IsBelow high k

-- ---- lists of pairs of a key and something else

-- each key is within the limits
abbrev pub AllWithin : {X : Type 0} → Option Key → Option Key → List (Key × X) → Type 0
AllWithin low high [] = Unit {0}
AllWithin low high (x ∷ xs) = Within low high x.0 × AllWithin low high xs

-- no key comes before this one
abbrev pub AllFrom : {X : Type 0} → Key → List (Key × X) → Type 0
AllFrom k [] = Unit {0}
AllFrom k (x ∷ xs) = (is_before x.0 k ≡ false) × AllFrom k xs

-- sorted by key, equal keys allowed: no key comes before an earlier one
abbrev pub IsSorted : {X : Type 0} → List (Key × X) → Type 0
IsSorted [] = Unit {0}
IsSorted (x ∷ xs) = AllFrom x.0 xs × IsSorted xs

-- Consecutive items between two limits. Each reaches from its key to that of the next one, the first from the lower limit, and the last to the upper limit.
abbrev pub SideBySide : {X : Type 0} → (X → Key) → (Option Key → Option Key → X → Type 0) → Option Key → Option Key → List X → Type 0
SideBySide key Reaches low high [] = Unit {0}
SideBySide key Reaches low high (x ∷ []) = Reaches low high x
SideBySide key Reaches low high (x ∷ y ∷ ys) =
    IsPast low (key y) × IsBelow high (key y) × Reaches low (Some (key y)) x × SideBySide key Reaches (Some (key y)) high (y ∷ ys)
