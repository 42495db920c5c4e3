-- The rows of a dump are the rows that were dumped.
use Rattle.std.proofs.Common.{ℕ, zero, suc, ◌≡◌, ◌∙◌, ◌+◌, ◌≤◌, ◌==◌, ◌&&◌, ◌++◌, Bool, true, false, List, [], ◌∷◌, length, map, None, Result}
use Rattle.std.proofs.Common.{Ok, Err, ap, sym, subst, refl, arith, append_assoc, length-append, if◌then◌else◌, codes, T, eq-eqb}
use Rattle.std.proofs.lemmas.List.{length-map}
use Rattle.std.specs.Cmp.Lexicographic.{pointwise}
use Rattle.std.specs.FinMap.{is_sorted}
use Rattle.std.specs.List.{AllByRecursion, filter_map}
use Rattle.std.specs.Prelude.{flat_map, fold}
use Rattle.std.specs.Result.{result_err, result_ok}
use Rattle.csv.specs.Machine.{next_record}
use Rattle.csv.specs.Reading.{default_config, records, records_from, records_next, strip_bom}
use Rattle.csv.specs.Writing.{default_writer, is_blank, read_back, row_body, row_text}
use Rattle.csv.specs.declared.parser.State.TheVariants as state
use Rattle.csv.proofs.RoundTrip.{read-write, rows_text}
use Rattle.bt_rowtype.specs.Loads.{is_header}
use Rattle.bt_value.specs.Results.{all_read, unless, or_refused, and_then, map_ok}
use Rattle.bt_record.specs.Records.{has_mark}
use Rattle.bt_row.specs.RecordTexts.{record_text}
use Rattle.bt_value.specs.Refusals.{lowest}
use Rattle.bt_row.specs.Schemas.{Schema, fit_columns, is_schema, read_as, values_of}
use Rattle.bt_value.specs.Values.{fits_kind, text_of}
use Rattle.bt_value.specs.declared.refusal.Refusal.{Refusal}
use Rattle.bt_value.specs.declared.refusal.Refusal.TheVariants.{BadField, BadLength, BadSchema}
use Rattle.bt_row.specs.declared.rows.schema.Column.{Column}
use Rattle.bt_value.specs.declared.value.Value.{Value}
use Rattle.bt_keycode.specs.Keys.{key_cmp}
use Rattle.bt_keycode.specs.Standing.{AllAreUnder, AllStand, AreOf, IsOf, RowMap}
use Rattle.bt_load.specs.Loads.{text_rows, typed_from, under_header}
use Rattle.bt_load.specs.Maps.{map_of}
use Rattle.bt_load.proofs.offered.Loaded.{map_of-rows}
use Rattle.bt_show.specs.RecordTexts.{record_line}
use Rattle.bt_form.specs.Messages.{between}
use Rattle.bt_read.proofs.offered.Portions.{between-all}
use Rattle.bt_table.specs.Calls.{Load, NamedTree, Rebuild, after_load, load_refusals, loaded_rows, step, tree_named, unless_any, with_rows}
use Rattle.bt_table.specs.Standing.{IsSoundTable}
use Rattle.bt_table.specs.Tables.{Intact, PlainTable}
use Rattle.bt_table.specs.declared.reply.Reply.TheVariants.{Loaded}
use Rattle.bt_table.proofs.offered.SoundTables.{rows_sorted}
use Rattle.std.proofs.lemmas.Bool.Decides.{nat_tests}
use Rattle.bt_snapshot.specs.Snapshots.{AreShown, dump_of, header_line}
use Rattle.bt_snapshot.proofs.offered.Lines.{visited_from}
use Rattle.bt_laws.specs.Dumps.{HasPlainHeader, IsReadyFor}
use Rattle.bt_laws.specs.StoredTables.{HasOnlyBytes, IsStored}
use Rattle.bt_laws.specs.CanonicalForms.{AreOfOneDefinition, HaveSameRows, image_after, is_of_all_rows}
use Rattle.bt_laws.proofs.FromScratch.{loaded_from_scratch, of_table, rebuilt_from_scratch, table_of, trees_alike}
use Rattle.bt_laws.proofs.ValueTexts.{values_of_texts}

-- ---- the text as records

-- the fields of rows
abbrev fields_of : List (List Value) → List (List (List ℕ))
fields_of rows = map (λ row. map text_of row) rows

-- the names of columns
abbrev names_of : List Column → List (List ℕ)
names_of columns = map (λ c. c.name) columns

line_text : (fields : List (List ℕ)) → record_text fields ++ codes "\n" ≡ row_text default_writer fields
line_text fields = append_assoc (row_body default_writer fields) (if is_blank default_writer fields then 34 ∷ 34 ∷ [] else []) (10 ∷ [])

lines_text : (rows : List (List Value)) → flat_map record_line rows ≡ rows_text (fields_of rows)
unfolding rows_text
lines_text [] = refl
lines_text (row ∷ rows) = λ i. line_text (map text_of row) i ++ lines_text rows i

dump_text : (columns : List Column) (rows : List (List Value)) → dump_of columns rows ≡ rows_text (names_of columns ∷ fields_of rows)
unfolding rows_text
dump_text columns rows = λ i. line_text (names_of columns) i ++ lines_text rows i

nothing_left : next_record default_config state.StartRecord [] [] [] ≡ None
unfolding next_record
nothing_left = refl

line_long : (fields : List (List ℕ)) → 1 ≤ length (row_text default_writer fields)
line_long fields =
    let blank : List ℕ = if is_blank default_writer fields then 34 ∷ 34 ∷ [] else [] in
    omega (arith, length-append (row_body default_writer fields) (blank ++ 10 ∷ []), length-append blank (10 ∷ []))

lines_long : (rows : List (List (List ℕ))) → length rows ≤ length (rows_text rows)
unfolding rows_text
lines_long [] = omega arith
lines_long (row ∷ rows) = omega (arith, length-append (row_text default_writer row) (rows_text rows), line_long row, lines_long rows)

-- all records are read, if that many may be
read_all : (n : ℕ) (rows : List (List (List ℕ))) → length rows ≤ n → records_from default_config n state.StartRecord (rows_text rows) ≡ map read_back rows
unfolding records_from rows_text
read_all zero [] few = refl
read_all (suc n) [] few = ap (records_next (records_from default_config n)) nothing_left
read_all zero (row ∷ rows) few = absurd (omega (arith, few))
read_all (suc n) (row ∷ rows) few =
    ap (records_next (records_from default_config n)) (read-write row (rows_text rows)) ∙ ap (λ (rest : List (List (List ℕ))). read_back row ∷ rest) (read_all n rows (omega (arith, few)))

-- ---- no byte order mark

unmarked : (line more : List ℕ) → has_mark (line ++ 10 ∷ []) ≡ false → has_mark ((line ++ 10 ∷ []) ++ more) ≡ false
unmarked [] [] plain = refl
unmarked [] (b ∷ []) plain = refl
unmarked [] (b ∷ c ∷ more) plain = refl
unmarked (a ∷ []) [] plain = refl
unmarked (a ∷ []) (c ∷ more) plain = elim (a == 0xEF) as (λ t. (t && false && (c == 0xBF)) ≡ false) [ true ↦ refl | false ↦ refl ]
unmarked (a ∷ b ∷ []) more plain = plain
unmarked (a ∷ b ∷ c ∷ line) more plain = plain

unstripped : (text : List ℕ) → has_mark text ≡ false → strip_bom text ≡ text
unfolding strip_bom
unstripped [] plain = refl
unstripped (a ∷ []) plain = refl
unstripped (a ∷ b ∷ []) plain = refl
unstripped (a ∷ b ∷ c ∷ rest) plain = ap (λ t. if t then rest else a ∷ b ∷ c ∷ rest) plain

-- ---- the records as rows

same_bytes : (bytes : List ℕ) → pointwise ◌==◌ bytes bytes ≡ true
same_bytes [] = refl
same_bytes (b ∷ bytes) = ap (λ t. t && pointwise ◌==◌ bytes bytes) (eq-eqb b b refl) ∙ same_bytes bytes

own_header : (columns : List Column) → is_header columns (names_of columns) ≡ true
own_header [] = refl
own_header (c ∷ columns) = ap (λ t. t && is_header columns (names_of columns)) (same_bytes c.name) ∙ own_header columns

fit_length : (columns : List Column) (row : List Value) → fit_columns columns row ≡ true → length row ≡ length columns
fit_length [] [] fits = refl
fit_length [] (v ∷ row) fits = absurd cc
fit_length (c ∷ columns) [] fits = absurd cc
fit_length (c ∷ columns) (v ∷ row) fits = by_first (fits_kind c.kind v) fits (λ rest. fit_length columns row rest)
  where
    by_first : (b : Bool) → (b && fit_columns columns row) ≡ true → (fit_columns columns row ≡ true → length row ≡ length columns) → suc (length row) ≡ suc (length columns)
    by_first true rest more = ap suc (more rest)
    by_first false rest more = absurd cc

row_read : (columns : List Column) (item : ℕ) (row : List Value) → IsOf columns row → AllByRecursion HasOnlyBytes row → read_as columns item (map text_of row) ≡ Ok row
row_read columns item row of bytes =
    let long : (length (map text_of row) == length columns) ≡ true = eq-eqb _ _ (length-map row text_of ∙ fit_length columns row of.fits) in
    ap (λ t. if t then or_refused (BadField item) (values_of columns (map text_of row)) else Err (BadLength item)) long
    ∙ ap (or_refused (BadField item)) (values_of_texts columns row of.fits of.in_range bytes)

-- each row was read
abbrev found : List (List Value) → List (Result (List Value) Refusal)
found rows = map (λ row. Ok row) rows

rows_read : (columns : List Column) (item : ℕ) (rows : List (List Value)) → AreOf columns rows → AllByRecursion (AllByRecursion HasOnlyBytes) rows
    → typed_from columns item (fields_of rows) ≡ found rows
rows_read columns item [] of bytes = refl
rows_read columns item (row ∷ rows) of bytes = λ i. row_read columns item row of.0 bytes.0 i ∷ rows_read columns (item + 1) rows of.1 bytes.1 i

none_refused : (rows : List (List Value)) → filter_map result_err (found rows) ≡ []
none_refused [] = refl
none_refused (row ∷ rows) = none_refused rows

all_found : (rows : List (List Value)) → filter_map result_ok (found rows) ≡ rows
all_found [] = refl
all_found (row ∷ rows) = ap (λ (rest : List (List Value)). row ∷ rest) (all_found rows)

all_read-found : (rows : List (List Value)) → all_read (found rows) ≡ Ok rows
all_read-found rows = λ i. unless (lowest (none_refused rows i)) (all_found rows i)

-- fields of rows with columns are read back
read_back-fields : (columns : List Column) (rows : List (List Value)) → 1 ≤ length columns → AreOf columns rows → map read_back (fields_of rows) ≡ fields_of rows
read_back-fields columns [] some of = refl
read_back-fields columns ([] ∷ rows) some of = absurd (omega (arith, some, fit_length columns [] of.0.fits))
read_back-fields columns ((v ∷ row) ∷ rows) some of = ap (λ (rest : List (List (List ℕ))). map text_of (v ∷ row) ∷ rest) (read_back-fields columns rows some of.1)

read_back-names : (columns : List Column) → 1 ≤ length columns → read_back (names_of columns) ≡ names_of columns
read_back-names [] some = absurd (omega (arith, some))
read_back-names (c ∷ columns) some = refl

-- the rows of a dump
dumped_rows : (columns : List Column) (rows : List (List Value)) → 1 ≤ length columns → has_mark (header_line columns) ≡ false → AreOf columns rows
    → AllByRecursion (AllByRecursion HasOnlyBytes) rows → text_rows columns (dump_of columns rows) ≡ Ok rows
dumped_rows columns rows some plain of bytes =
    let text = dump_of columns rows in
    let no_mark : has_mark text ≡ false = unmarked (record_text (names_of columns)) (flat_map record_line rows) plain in
    let whole : strip_bom text ≡ text = unstripped text no_mark in
    let all : records default_config text ≡ names_of columns ∷ fields_of rows =
    ap (records default_config) (dump_text columns rows)
    ∙ read_all (length (rows_text (names_of columns ∷ fields_of rows)) + 1) (names_of columns ∷ fields_of rows) (omega (arith, lines_long (names_of columns ∷ fields_of rows)))
    ∙ (λ i. read_back-names columns some i ∷ read_back-fields columns rows some of i) in
    ap (λ (t : List ℕ). if has_mark t then Err BadSchema else under_header columns (records default_config t)) whole
    ∙ ap (λ t. if t then Err BadSchema else under_header columns (records default_config text)) no_mark
    ∙ ap (under_header columns) all
    ∙ ap (λ t. if t then all_read (typed_from columns 1 (fields_of rows)) else Err BadSchema) (own_header columns)
    ∙ ap all_read (rows_read columns 1 rows of bytes) ∙ all_read-found rows

-- ---- the rows as a map

all_under : (schema : Schema) (rows : RowMap) → AllStand schema rows → AllAreUnder schema.keys rows
all_under schema [] stand = tt
all_under schema (r ∷ rows) stand = (stand.0.placed, all_under schema rows stand.1)

mapped_again : (schema : Schema) (rows : RowMap) → T (is_sorted key_cmp rows) → AllStand schema rows → map_of schema.keys (map (λ r. r.1) rows) ≡ Ok rows
mapped_again schema rows sorted stand = map_of-rows schema.keys rows (all_under schema rows stand) sorted

stand_of : (schema : Schema) (rows : RowMap) → AllStand schema rows → AreOf schema.columns (map (λ r. r.1) rows)
stand_of schema [] stand = tt
stand_of schema (r ∷ rows) stand = (record { fits = stand.0.fits; in_range = stand.0.in_range }, stand_of schema rows stand.1)

bytes_of : (rows : RowMap) → AllByRecursion (λ row. AllByRecursion HasOnlyBytes row.1) rows → AllByRecursion (AllByRecursion HasOnlyBytes) (map (λ r. r.1) rows)
bytes_of [] bytes = tt
bytes_of (r ∷ rows) bytes = (bytes.0, bytes_of rows bytes.1)

-- ---- the table that loads the dump

-- what a scan of all rows of a table shows
scanned : (table : PlainTable) (rows : List (List Value)) → AreShown table rows → map (λ r. r.1) table.rows ≡ rows
scanned table rows is =
    let all : Ok (map (λ r. r.1) (between None None table.rows)) ≡ Ok rows = is in
    let same : map (λ r. r.1) (between None None table.rows) ≡ rows = cc in
    ap (λ (m : RowMap). map (λ r. r.1) m) (sym (between-all table.rows)) ∙ same

some_column : (columns : List Column) (keys : ℕ) → is_schema columns keys ≡ true → 1 ≤ length columns
some_column columns keys test = grind (arith, nat_tests)

module _ (table other : PlainTable) (stored : IsStored table) (header : HasPlainHeader table) (can : IsReadyFor table other) (rows : List (List Value)) (seen : AreShown table rows) where
  loads : loaded_rows other (dump_of table.schema.columns rows) ≡ Ok table.rows
  loads =
      let text = dump_of table.schema.columns rows in
      let are = scanned table rows seen in
      let some = some_column table.schema.columns table.schema.keys stored.schema in
      let of : AreOf table.schema.columns rows = subst (AreOf table.schema.columns) are (stand_of table.schema table.rows stored.sound.rows) in
      let bytes : AllByRecursion (AllByRecursion HasOnlyBytes) rows = subst (AllByRecursion (AllByRecursion HasOnlyBytes)) are (bytes_of table.rows stored.bytes) in
      let read : text_rows other.schema.columns text ≡ Ok rows = ap (λ (s : Schema). text_rows s.columns text) can.schema ∙ dumped_rows table.schema.columns rows some header of bytes in
      let sorted = rows_sorted table stored.sound in
      ap (λ (r : Result (List (List Value)) Refusal). and_then (map_of other.schema.keys) (and_then (unless_any (load_refusals other.indexes other.tree)) r)) read
      ∙ ap (λ (rs : List Refusal). and_then (map_of other.schema.keys) (unless_any rs rows)) can.allowed
      ∙ ap (λ (s : Schema). map_of s.keys rows) can.schema
      ∙ ap (map_of table.schema.keys) (sym are)
      ∙ mapped_again table.schema table.rows sorted stored.sound.rows

  pub same_rows : step (Intact other) (Load (dump_of table.schema.columns rows)) ≡ Ok (Intact (with_rows other table.rows), Loaded (length table.rows))
  same_rows = ap (map_ok (after_load other)) loads

  module _ (sound : IsSoundTable other) (shape : other.shape ≡ table.shape) (name : List ℕ) (tree loaded : NamedTree) where
    pub same_images : tree_named (Intact table) name ≡ Ok tree → tree_named (Intact (with_rows other table.rows)) name ≡ Ok loaded → AreOfOneDefinition tree loaded → is_of_all_rows tree ≡ true →
        image_after (Intact other) (Load (dump_of table.schema.columns rows)) name ≡ image_after (Intact table) (Rebuild name) name
    same_images first second one all =
        let whole : HaveSameRows table (with_rows other table.rows) = record { columns = ap (λ (s : Schema). s.columns) (sym can.schema); shape = sym shape; rows = refl } in
        let here = subst (λ (t : PlainTable). HaveSameRows t (with_rows other table.rows)) (sym (of_table table name tree first)) whole in
        let both = subst (λ (t : PlainTable). HaveSameRows (table_of tree) t) (sym (of_table (with_rows other table.rows) name loaded second)) here in
        loaded_from_scratch other sound name table.rows (dump_of table.schema.columns rows) loads loaded second
        ∙ ap (λ (text : List ℕ). Ok text) (sym (trees_alike name tree loaded both one)) ∙ sym (rebuilt_from_scratch table stored.sound name tree first all)

-- ---- the text that is made row by row

pub visited : (rows : RowMap) → fold (λ text row. text ++ record_line row.1) [] rows ≡ flat_map record_line (map (λ row. row.1) rows)
visited rows = visited_from [] rows
