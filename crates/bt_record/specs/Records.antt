-- One record in a line, and its fields.
use Rattle.std.specs.Prelude.{ℕ, ◌==◌, ◌||◌, ◌∷◌, [], Bool, false, List, length, Option, None, option_map, unwrap_or, if◌then◌else◌}
use Rattle.std.specs.List.{list_any}
use Rattle.csv.specs.Machine.{next_record}
use Rattle.csv.specs.Reading.{default_config, is_bom, strip_bom}
use Rattle.csv.specs.declared.parser.State.TheVariants as state

-- the fields of the first record of a text, as csv reads it
abbrev pub csv_record : List ℕ → Option (List (List ℕ))
csv_record text = option_map (λ p. p.0) (next_record default_config state.StartRecord [] [] text)

-- the fields of the first record of a text, as csv reads it; no fields if the text has only line ends
abbrev pub fields_in : List ℕ → List (List ℕ)
fields_in text = unwrap_or (csv_record text) []

-- whether a text begins with a byte order mark
abbrev pub has_mark : List ℕ → Bool
has_mark [] = false
has_mark (a ∷ []) = false
has_mark (a ∷ b ∷ []) = false
has_mark (a ∷ b ∷ c ∷ rest) = is_bom a b c

-- a text that is not a record: it is empty, begins with a byte order mark, or has a CR
abbrev pub is_refused : List ℕ → Bool
is_refused text = (length text == 0) || has_mark text || list_any (λ b. b == 13) text

-- the fields of the record in a line, if it has one; one byte order mark is dropped first
abbrev pub record_of : List ℕ → Option (List (List ℕ))
record_of line = if is_refused (strip_bom line) then None else csv_record (strip_bom line)
