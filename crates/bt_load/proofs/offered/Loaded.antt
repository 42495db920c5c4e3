-- Rows that are loaded are of the columns, and their map is in the order of its keys.
use Rattle.std.proofs.Common.{◌≡◌, ℕ, ◌+◌, true, false, T, List, [], ◌∷◌, map, Option, Some, None, Ok, Err, if◌then◌else◌, refl, sym, subst}
use Rattle.std.specs.Prelude.{option_map}
use Rattle.std.proofs.lemmas.List.Sorted.{IsPermutation-refl}
use Rattle.std.specs.FinMap.{is_sorted}
use Rattle.std.specs.List.Sorted.{IsPermutation}
use Rattle.csv.specs.Reading.{default_config, records, strip_bom}
use Rattle.bt_rowtype.specs.Loads.{is_header}
use Rattle.bt_value.specs.Results.{all_read, unless}
use Rattle.bt_record.specs.Records.{has_mark}
use Rattle.bt_value.specs.declared.refusal.Refusal.TheVariants.{BadSchema, DuplicateKey}
use Rattle.bt_row.specs.declared.rows.schema.Column.{Column}
use Rattle.bt_value.specs.declared.value.Value.{Value}
use Rattle.bt_keycode.specs.Keys.{key_cmp}
use Rattle.bt_keycode.specs.Standing.{AllAreUnder, AreOf, RowMap}
use Rattle.bt_load.specs.Loads.{text_rows, typed_from, under_header}
use Rattle.bt_load.specs.Maps.{first_repeat, keyed_rows, map_by_key, map_of}
use Rattle.bt_load.proofs.Maps.{map_by_key-sorted, sorted_is_map}
use Rattle.bt_load.proofs.Rows.{read_rows}

under_header-of : (columns : List Column) (found : List (List (List ℕ))) (rows : List (List Value)) → under_header columns found ≡ Ok rows → AreOf columns rows
under_header-of columns [] rows is = cc
under_header-of columns (names ∷ others) rows is =
    elim (is_header columns names) as (λ b. (if b then all_read (typed_from columns 1 others) else Err BadSchema) ≡ Ok rows → AreOf columns rows) [
      | true ↦ λ read. read_rows columns 1 others rows read
      | false ↦ λ read. cc
    ] is

pub text_rows-of : (columns : List Column) (text : List ℕ) (rows : List (List Value)) → text_rows columns text ≡ Ok rows → AreOf columns rows
text_rows-of columns text rows is =
    elim (has_mark (strip_bom text)) as (λ b. (if b then Err BadSchema else under_header columns (records default_config (strip_bom text))) ≡ Ok rows → AreOf columns rows) [
      | true ↦ λ read. cc
      | false ↦ λ read. under_header-of columns (records default_config (strip_bom text)) rows read
    ] is

-- ---- the map of rows

-- it is that of the rows with their keys
pub map_of-map_by_key : (keys : ℕ) (rows : List (List Value)) (pairs : RowMap) → map_of keys rows ≡ Ok pairs → map_by_key (keyed_rows keys rows) ≡ pairs
map_of-map_by_key keys rows pairs is = by_place (first_repeat (keyed_rows keys rows)) is
  where
    by_place : (place : Option ℕ) → unless (option_map (λ n. DuplicateKey (n + 1)) place) (map_by_key (keyed_rows keys rows)) ≡ Ok pairs → map_by_key (keyed_rows keys rows) ≡ pairs
    by_place None mapped = cc
    by_place (Some n) refused = cc

-- it is in the order of its keys
pub map_of-sorted : (keys : ℕ) (rows : List (List Value)) (pairs : RowMap) → map_of keys rows ≡ Ok pairs → T (is_sorted key_cmp pairs)
map_of-sorted keys rows pairs is = subst (λ (m : RowMap). T (is_sorted key_cmp m)) (map_of-map_by_key keys rows pairs is) (map_by_key-sorted (keyed_rows keys rows))

keyed_rows-map : (keys : ℕ) (pairs : RowMap) → AllAreUnder keys pairs → keyed_rows keys (map (λ p. p.1) pairs) ≡ pairs
keyed_rows-map keys [] under = refl
keyed_rows-map keys (p ∷ pairs) under = λ i. (sym under.0 i, p.1) ∷ keyed_rows-map keys pairs under.1 i

-- the map of the rows of a map is this map
pub map_of-rows : (keys : ℕ) (pairs : RowMap) → AllAreUnder keys pairs → T (is_sorted key_cmp pairs) → map_of keys (map (λ p. p.1) pairs) ≡ Ok pairs
map_of-rows keys pairs under sorted =
    sorted_is_map keys (map (λ p. p.1) pairs) pairs (subst (λ (m : RowMap). IsPermutation m pairs) (sym (keyed_rows-map keys pairs under)) (IsPermutation-refl pairs)) sorted
