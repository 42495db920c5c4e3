-- The places in a text after every 1,024 records.
use Rattle.std.specs.Prelude.{ℕ, ◌≡◌, ◌*◌, ◌<◌, List, [], drop, length, slice_index_or}

-- there are marks for all places in these records, and at each mark the records from there on are left
pub record AreMarks (records : List (List (List ℕ))) (marks : List (List (List (List ℕ)))) : Type 0 where
  pub enough : length records < 1024 * length marks
  pub left : (k : ℕ) → k < length marks → slice_index_or marks k [] ≡ drop (1024 * k) records
