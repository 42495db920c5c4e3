-- The reason of a batch, and of the text of a load, is that of its refusal.
use Rattle.std.proofs.Common.{ℕ, ◌≡◌, ◌∙◌, ◌≤◌, ◌+◌, ◌==◌, ◌&&◌, ◌∷◌, [], List, Bool, true, false, Option, Some, None, Err, refl, ap, sym, arith, length, take, if◌then◌else◌}
use Rattle.std.proofs.lemmas.Bool.Decides.{nat_tests}
use Rattle.std.specs.Cmp.Lexicographic.{pointwise}
use Rattle.std.specs.List.{cons_option, filter_map}
use Rattle.std.specs.Option.{option_or, option_to_list}
use Rattle.std.specs.Prelude.{is_some, nat_lt, not, option_map}
use Rattle.std.specs.Result.{result_err}
use Rattle.csv.specs.Reading.{default_config, records, strip_bom}
use Rattle.bt_record.specs.Records.{has_mark}
use Rattle.bt_value.specs.Refusals.{lowest, lowest_from}
use Rattle.bt_value.specs.Results.{all_read, one_if}
use Rattle.bt_value.specs.declared.refusal.Refusal.{Refusal}
use Rattle.bt_value.specs.declared.refusal.Refusal.TheVariants.{BadSchema, TooMany}
use Rattle.bt_row.specs.Ops.{upsert_as}
use Rattle.bt_row.specs.Schemas.{Schema, read_as}
use Rattle.bt_row.specs.declared.rows.schema.Column.{Column}
use Rattle.bt_rowtype.specs.Loads.{is_header}
use Rattle.bt_rowtype.specs.declared.item.Item.{Item}
use Rattle.bt_rowtype.specs.declared.item.Item.TheVariants.{Del, Put, Ups}
use Rattle.bt_batch.specs.Batches.{batch_refusals, del_of, most_messages, put_of, read_batch, read_key, read_message, record_refusals, ups_of}
use Rattle.bt_load.specs.Loads.{text_rows, typed_from, under_header}
use Rattle.bt_fault.specs.Batches.{batch_reason, many_reason}
use Rattle.bt_fault.specs.Calls.{bad_header, header_reason, line_reason, line_reasons, name_problem, record_reasons, text_reason, under_header_reason}
use Rattle.bt_fault.specs.Reasons.{Explains, first_problem, lowest_reason, reason_at, refusal_of}
use Rattle.bt_fault.specs.declared.problem.Problem.{Problem}
use Rattle.bt_fault.specs.declared.problem.Problem.TheVariants.{FieldCount, ManyMessages, OtherName, SecondMark}
use Rattle.bt_fault.specs.declared.reason.Reason.{Reason}
use Rattle.bt_fault.proofs.Explained.{all_err, lower_explained, lowest_explained, lowest_from-append, mapped_err, row_explained}
use Rattle.bt_fault.proofs.ExplainedUpserts.{ups_explained}

-- ---- batches

line_explained : (schema : Schema) (item : ℕ) (line : Item) → schema.keys ≤ length schema.columns → Explains (read_message schema item line) (line_reason schema item line)
line_explained schema item (Put fields) within = row_explained schema.columns item fields ∙ sym (mapped_err (put_of schema.keys) (read_as schema.columns item fields))
line_explained schema item (Del fields) within = row_explained (take schema.keys schema.columns) item fields ∙ sym (mapped_err del_of (read_key schema item fields))
line_explained schema item (Ups fields) within = ups_explained schema item fields within ∙ sym (mapped_err (ups_of schema) (upsert_as schema item fields))

lines_explained : (schema : Schema) (item : ℕ) (lines : List Item) → schema.keys ≤ length schema.columns
    → filter_map refusal_of (line_reasons schema item lines) ≡ filter_map result_err (read_batch schema item lines)
lines_explained schema item [] within = refl
lines_explained schema item (line ∷ lines) within =
    ap (λ (first : Option Refusal). cons_option first (filter_map refusal_of (line_reasons schema (item + 1) lines))) (line_explained schema item line within)
    ∙ ap (cons_option (result_err (read_message schema item line))) (lines_explained schema (item + 1) lines within)

many_explained : (many : Bool) → option_to_list (refusal_of (if many then Some (reason_at TooMany (most_messages + 1) 0 ManyMessages) else None)) ≡ one_if many TooMany
many_explained true = refl
many_explained false = refl

-- the reason of a batch is that of its refusal
pub batch_explained : (schema : Schema) (items : List Item) → schema.keys ≤ length schema.columns → refusal_of (batch_reason schema items) ≡ lowest (batch_refusals schema items)
batch_explained schema items within =
    let many = nat_lt most_messages (length items) in
    lower_explained (lowest_reason (line_reasons schema 1 items)) (many_reason (length items))
    ∙ ap (λ (f : Option Refusal). lowest_from f (option_to_list (refusal_of (many_reason (length items)))))
    (lowest_explained (line_reasons schema 1 items) ∙ ap lowest (lines_explained schema 1 items within))
    ∙ ap (lowest_from (lowest (record_refusals schema items))) (many_explained many)
    ∙ sym (lowest_from-append None (record_refusals schema items) (one_if many TooMany))

-- ---- loads

records_explained : (columns : List Column) (item : ℕ) (others : List (List (List ℕ)))
    → filter_map refusal_of (record_reasons columns item others) ≡ filter_map result_err (typed_from columns item others)
records_explained columns item [] = refl
records_explained columns item (fields ∷ others) =
    ap (λ (first : Option Refusal). cons_option first (filter_map refusal_of (record_reasons columns (item + 1) others))) (row_explained columns item fields)
    ∙ ap (cons_option (result_err (read_as columns item fields))) (records_explained columns (item + 1) others)

rows_explained : (columns : List Column) (others : List (List (List ℕ))) → Explains (all_read (typed_from columns 1 others)) (lowest_reason (record_reasons columns 1 others))
rows_explained columns others = lowest_explained (record_reasons columns 1 others) ∙ ap lowest (records_explained columns 1 others) ∙ sym (all_err (typed_from columns 1 others))

-- a header has a field with a problem, or is the names of the columns
found_or_same : (before : ℕ) (columns : List Column) (names : List (List ℕ)) → length names ≡ length columns
    → is_some (first_problem name_problem before columns names) ≡ not (is_header columns names)
found_or_same before [] [] same = refl
found_or_same before [] (name ∷ names) same = absurd (omega (arith, same))
found_or_same before (c ∷ columns) [] same = absurd (omega (arith, same))
found_or_same before (c ∷ columns) (name ∷ names) same =
    elim (pointwise ◌==◌ c.name name) as (λ is. is_some (option_or (option_map (λ (p : Problem). (before + 1, p)) (if is then None else Some OtherName))
    (first_problem name_problem (before + 1) columns names)) ≡ not (is && is_header columns names)) [
      | true ↦ found_or_same (before + 1) columns names (omega (arith, same))
      | false ↦ refl
    ]

header_length : (columns : List Column) (names : List (List ℕ)) → is_header columns names ≡ true → length names ≡ length columns
header_length [] [] is = refl
header_length [] (name ∷ names) is = absurd cc
header_length (c ∷ columns) [] is = absurd cc
header_length (c ∷ columns) (name ∷ names) is = omega (arith, header_length columns names (others (pointwise ◌==◌ c.name name) (is_header columns names) is))
  where
    others : (a b : Bool) → (a && b) ≡ true → b ≡ true
    others true b both = both
    others false b both = absurd cc

mapped_some : (found : Option (ℕ × Problem)) → is_some (option_map (λ (f : ℕ × Problem). bad_header f.0 f.1) found) ≡ is_some found
mapped_some None = refl
mapped_some (Some found) = refl

no_header : (columns : List Column) (names : List (List ℕ)) (is : Bool) → is_header columns names ≡ is → (length names == length columns) ≡ false → true ≡ not is
no_header columns names true is differ =
    let same : length names ≡ length columns = header_length columns names is in
    absurd (grind (arith, nat_tests))
no_header columns names false is differ = refl

header_found : (columns : List Column) (names : List (List ℕ)) → is_some (header_reason columns names) ≡ not (is_header columns names)
header_found columns names = elim (length names == length columns) as (λ same. (length names == length columns) ≡ same
    → is_some (if same then option_map (λ (f : ℕ × Problem). bad_header f.0 f.1) (first_problem name_problem 0 columns names) else Some (bad_header 0 FieldCount))
    ≡ not (is_header columns names)) [
      | true ↦ λ same.
          let long : length names ≡ length columns = grind (arith, nat_tests) in
          mapped_some (first_problem name_problem 0 columns names) ∙ found_or_same 0 columns names long
      | false ↦ λ differ. no_header columns names (is_header columns names) refl differ
    ] refl

is_schema_refusal : (columns : List Column) (names : List (List ℕ)) (reason : Reason) → header_reason columns names ≡ Some reason → reason.refusal ≡ BadSchema
is_schema_refusal columns names reason is = elim (length names == length columns) as (λ same.
    (if same then option_map (λ (f : ℕ × Problem). bad_header f.0 f.1) (first_problem name_problem 0 columns names) else Some (bad_header 0 FieldCount)) ≡ Some reason
    → reason.refusal ≡ BadSchema) [
      | true ↦ λ found. of_found (first_problem name_problem 0 columns names) found
      | false ↦ λ found. let one : bad_header 0 FieldCount ≡ reason = cc in ap (λ (r : Reason). r.refusal) (sym one)
    ] is
  where
    of_found : (found : Option (ℕ × Problem)) → option_map (λ (f : ℕ × Problem). bad_header f.0 f.1) found ≡ Some reason → reason.refusal ≡ BadSchema
    of_found None is = absurd cc
    of_found (Some f) is = let one : bad_header f.0 f.1 ≡ reason = cc in ap (λ (r : Reason). r.refusal) (sym one)

header_explained : (columns : List Column) (names : List (List ℕ)) (others : List (List (List ℕ))) (found : Option Reason) (is : Bool) → header_reason columns names ≡ found
    → is_some found ≡ not is
    → Explains (if is then all_read (typed_from columns 1 others) else Err BadSchema) (option_or found (lowest_reason (record_reasons columns 1 others)))
header_explained columns names others None true found some = rows_explained columns others
header_explained columns names others None false found some = absurd cc
header_explained columns names others (Some reason) true found some = absurd cc
header_explained columns names others (Some reason) false found some = ap Some (is_schema_refusal columns names reason found)

under_explained : (columns : List Column) (all : List (List (List ℕ))) → Explains (under_header columns all) (under_header_reason columns all)
under_explained columns [] = refl
under_explained columns (names ∷ others) = header_explained columns names others (header_reason columns names) (is_header columns names) refl (header_found columns names)

-- the reason of a text is that of its refusal
pub text_explained : (columns : List Column) (text : List ℕ) → Explains (text_rows columns text) (text_reason columns text)
text_explained columns text = elim (has_mark (strip_bom text)) as (λ marked.
    refusal_of (if marked then Some (bad_header 0 SecondMark) else under_header_reason columns (records default_config (strip_bom text)))
    ≡ result_err (if marked then Err BadSchema else under_header columns (records default_config (strip_bom text)))) [
      | true ↦ refl
      | false ↦ under_explained columns (records default_config (strip_bom text))
    ]
