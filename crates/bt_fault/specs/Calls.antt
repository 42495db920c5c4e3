-- Why a batch, a key, the bounds of a range and the text of a load are refused because of their records.
use Rattle.std.specs.Prelude.{ℕ, ◌+◌, ◌==◌, List, [], ◌∷◌, length, take, Option, Some, None, option_map, if◌then◌else◌}
use Rattle.std.specs.Cmp.Lexicographic.{pointwise}
use Rattle.std.specs.Option.{option_or}
use Rattle.csv.specs.Reading.{default_config, records, strip_bom}
use Rattle.bt_record.specs.Records.{has_mark}
use Rattle.bt_value.specs.declared.refusal.Refusal.TheVariants.{BadSchema}
use Rattle.bt_row.specs.Schemas.{Schema}
use Rattle.bt_row.specs.declared.rows.schema.Column.{Column}
use Rattle.bt_rowtype.specs.declared.item.Item.{Item}
use Rattle.bt_rowtype.specs.declared.item.Item.TheVariants.{Del, Put, Ups}
use Rattle.bt_fault.specs.Reasons.{first_problem, lower_reason, lowest_reason, prefix_reason, reason_at, row_reason, ups_reason}
use Rattle.bt_fault.specs.declared.problem.Problem.{Problem}
use Rattle.bt_fault.specs.declared.problem.Problem.TheVariants.{FieldCount, NoHeader, OtherName, SecondMark}
use Rattle.bt_fault.specs.declared.reason.Reason.{Reason}

-- why a record is no key of a table
abbrev pub key_reason : Schema → ℕ → List (List ℕ) → Option Reason
key_reason schema item fields = row_reason (take schema.keys schema.columns) item fields

-- ---- batches

-- why the record of a line of a batch encodes no message
abbrev pub line_reason : Schema → ℕ → Item → Option Reason
line_reason schema item (Put fields) = row_reason schema.columns item fields
line_reason schema item (Del fields) = key_reason schema item fields
line_reason schema item (Ups fields) = ups_reason schema item fields

-- the same for lines, counted from an item on
abbrev pub line_reasons : Schema → ℕ → List Item → List (Option Reason)
line_reasons schema item [] = []
line_reasons schema item (line ∷ lines) = line_reason schema item line ∷ line_reasons schema (item + 1) lines

-- ---- ranges

-- why a bound is refused, if it is given
abbrev pub bound_reason : List Column → ℕ → Option (List (List ℕ)) → Option Reason
bound_reason columns item None = None
bound_reason columns item (Some fields) = prefix_reason columns item fields

-- why the bounds of a range of these key columns are refused
abbrev pub range_reason : List Column → Option (List (List ℕ)) → Option (List (List ℕ)) → Option Reason
range_reason columns from to = lower_reason (bound_reason columns 1 from) (bound_reason columns 2 to)

-- ---- loads

-- what is wrong with a field as the name of its column
abbrev pub name_problem : Column → List ℕ → Option Problem
name_problem column name = if pointwise ◌==◌ column.name name then None else Some OtherName

-- the header of a load is at fault at this field
abbrev pub bad_header : ℕ → Problem → Reason
bad_header field problem = reason_at BadSchema 0 field problem

-- why fields are not the names of the columns in order
abbrev pub header_reason : List Column → List (List ℕ) → Option Reason
header_reason columns names =
    if length names == length columns then option_map (λ found. bad_header found.0 found.1) (first_problem name_problem 0 columns names) else Some (bad_header 0 FieldCount)

-- why records are no rows, counted from an item on
abbrev pub record_reasons : List Column → ℕ → List (List (List ℕ)) → List (Option Reason)
record_reasons columns item [] = []
record_reasons columns item (fields ∷ others) = row_reason columns item fields ∷ record_reasons columns (item + 1) others

-- why a header and the records after it are refused
abbrev pub under_header_reason : List Column → List (List (List ℕ)) → Option Reason
under_header_reason columns [] = Some (bad_header 0 NoHeader)
under_header_reason columns (names ∷ others) = option_or (header_reason columns names) (lowest_reason (record_reasons columns 1 others))

-- why the text of a load is refused, from which one byte order mark is dropped
abbrev pub text_reason : List Column → List ℕ → Option Reason
text_reason columns text = if has_mark (strip_bom text) then Some (bad_header 0 SecondMark) else under_header_reason columns (records default_config (strip_bom text))
