-- The text of a record.
use Rattle.std.specs.Prelude.{ℕ, ◌++◌, ◌∷◌, [], List, if◌then◌else◌}
use Rattle.csv.specs.Writing.{default_writer, is_blank, row_body}

-- the line that csv writes for the fields, without its line end
abbrev pub record_text : List (List ℕ) → List ℕ
record_text fields = row_body default_writer fields ++ (if is_blank default_writer fields then 34 ∷ 34 ∷ [] else [])
