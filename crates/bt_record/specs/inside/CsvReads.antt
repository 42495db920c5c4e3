-- The records that a reader of csv has left.
use Rattle.std.specs.Prelude.{ℕ, ◌≡◌, ◌+◌, [], List, length, Option, Some, None, false, true}
use Rattle.csv.specs.Reading.{Ready, default_config, has_failed, is_flexible, reader_config, reader_state, reader_trim, records_from, source_of}
use Rattle.csv.specs.declared.parser.State.{State}
use Rattle.csv.specs.declared.reader.Reader.{Reader}
use Rattle.csv.specs.declared.reader.Trim.TheVariants as trim

-- the records of bytes that are read from a state, if the bytes are known
abbrev pub records_after : State → Option (List ℕ) → List (List (List ℕ))
records_after s None = []
records_after s (Some text) = records_from default_config (length text + 1) s text

-- the records that a reader has left; none after a failure
abbrev pub records_left : {R : Type 0} → (R → Option (List ℕ)) → Reader R → List (List (List ℕ))
records_left rem reader = records_after (reader_state reader) (source_of rem reader)

-- unless it has failed, a reader has csv's default settings, and reads records of any lengths, one after the other
abbrev pub ReadsEach : {R : Type 0} → Reader R → Type 0
ReadsEach reader = has_failed reader ≡ false → (reader_config reader ≡ default_config) × (reader_trim reader ≡ trim.None) × (is_flexible reader ≡ true) × Ready reader
