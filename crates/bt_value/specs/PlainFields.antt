-- Plain fields: those of ASCII bytes that stand for themselves in a record.
use Rattle.std.specs.List.{list_all, slice_split}
use Rattle.std.specs.Prelude.{ℕ, ◌≡◌, ◌≤◌, ◌==◌, ◌&&◌, ◌||◌, not, Bool, true, List, [], drop, get_or, if◌then◌else◌, length, nat_le, nat_lt, take}

-- a byte with a special meaning in a record: a quote or a line end
abbrev pub is_special : ℕ → Bool
is_special b = (b == 34) || (b == 13) || (b == 10)

-- an ASCII byte that is neither a comma nor special
abbrev pub is_plain : ℕ → Bool
is_plain b = nat_lt b 128 && not (b == 44) && not (is_special b)

-- the bytes before a place are plain and are a text's first field: a comma follows them, or the text ends
pub record EndsPlain (text : List ℕ) (place : ℕ) : Type 0 where
  pub within : place ≤ length text
  pub plain : list_all is_plain (take place text) ≡ true
  pub ends : get_or text place 44 ≡ 44

-- the parts of a text between its commas
abbrev pub parts_of : List ℕ → List (List ℕ)
parts_of text = slice_split (λ b. b == 44) text

-- the fields from a place on, which may be after the end
abbrev pub fields_from : ℕ → List ℕ → List (List ℕ)
fields_from at text = if nat_le at (length text) then parts_of (drop at text) else []
