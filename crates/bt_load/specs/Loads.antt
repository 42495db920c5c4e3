-- The rows of a CSV text.
use Rattle.std.specs.Prelude.{ℕ, ◌+◌, List, [], ◌∷◌, Result, Err, if◌then◌else◌}
use Rattle.csv.specs.Reading.{default_config, records, strip_bom}
use Rattle.bt_rowtype.specs.Loads.{is_header}
use Rattle.bt_value.specs.Results.{all_read}
use Rattle.bt_record.specs.Records.{has_mark}
use Rattle.bt_row.specs.Schemas.{read_as}
use Rattle.bt_value.specs.declared.refusal.Refusal.{Refusal}
use Rattle.bt_value.specs.declared.refusal.Refusal.TheVariants.{BadSchema}
use Rattle.bt_row.specs.declared.rows.schema.Column.{Column}
use Rattle.bt_value.specs.declared.value.Value.{Value}

-- the result of reading each of these records, the first of them as this item
abbrev pub typed_from : List Column → ℕ → List (List (List ℕ)) → List (Result (List Value) Refusal)
typed_from columns item [] = []
typed_from columns item (fields ∷ others) = read_as columns item fields ∷ typed_from columns (item + 1) others

-- the rows of the records under a header, which is the names of the columns in order, or the lowest refusal; records are counted from 1 after the header
abbrev pub under_header : List Column → List (List (List ℕ)) → Result (List (List Value)) Refusal
under_header columns [] = Err BadSchema
under_header columns (names ∷ others) = if is_header columns names then all_read (typed_from columns 1 others) else Err BadSchema

-- the rows of a text, from which one byte order mark is dropped, or the refusal that is returned
abbrev pub text_rows : List Column → List ℕ → Result (List (List Value)) Refusal
text_rows columns text = if has_mark (strip_bom text) then Err BadSchema else under_header columns (records default_config (strip_bom text))
