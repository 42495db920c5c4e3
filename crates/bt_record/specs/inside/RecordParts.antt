-- The end of the first record of a text.
use Rattle.std.specs.Prelude.{ℕ, ◌≡◌, ◌==◌, ◌||◌, ◌∷◌, [], Bool, false, true, List, take, drop, not, is_some}
use Rattle.csv.specs.Reading.{default_config, records}
use Rattle.bt_record.specs.Records.{csv_record, fields_in}

-- whether a byte is a line end, which csv skips before a record
abbrev pub is_line_end : ℕ → Bool
is_line_end b = (b == 13) || (b == 10)

-- whether a text begins with its first record
abbrev pub begins_record : List ℕ → Bool
begins_record [] = false
begins_record (b ∷ bs) = not (is_line_end b)

-- the bytes before a place are a text's first record; those from the place on are its other records, and begin with a line end, if there are any
abbrev pub EndsAt : List ℕ → ℕ → Type 0
EndsAt text place = (is_some (csv_record (take place text)) ≡ true)
    × (records default_config text ≡ fields_in (take place text) ∷ records default_config (drop place text))
    × (begins_record (drop place text) ≡ false)
