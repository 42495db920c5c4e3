-- The columns and rows of an index as a table, and ranges of keys.
use Rattle.std.specs.Prelude.{ℕ, ◌≡◌, ◌+◌, ◌++◌, ◌∷◌, List, [], T, drop, get_or, length, map, reverse, take, Option, Some, None, option_map, Result, Ok, Err, if◌then◌else◌}
use Rattle.std.specs.FinMap.{is_sorted}
use Rattle.bt_value.specs.Results.{both_read, map_ok}
use Rattle.bt_row.specs.Schemas.{Schema, prefix_as}
use Rattle.bt_value.specs.declared.refusal.Refusal.{Refusal}
use Rattle.bt_value.specs.declared.refusal.Refusal.TheVariants.{Building}
use Rattle.bt_row.specs.declared.rows.schema.Column.{Column}
use Rattle.bt_value.specs.declared.value.Kind.TheVariants as kind
use Rattle.bt_value.specs.declared.value.Value.{Value}
use Rattle.bt_keycode.specs.Codes.{code_of}
use Rattle.bt_keycode.specs.Keys.{Key, key_cmp}
use Rattle.bt_form.specs.Messages.{Rows, between}
use Rattle.bt_fanout.specs.Covers.{is_whole}
use Rattle.bt_fanout.specs.Entries.{Definition, entry_of, picked}
use Rattle.bt_fanout.specs.declared.cover.Cover.{Cover}
use Rattle.bt_show.specs.declared.range.KeyRange.{KeyRange}

-- ---- the columns of the rows of a tree

-- the column at a place
abbrev pub column_in : List Column → ℕ → Column
column_in columns place = get_or columns place (record { name = []; kind = kind.Flag })

-- an index as a table: its key is the columns that it is ordered by and the key columns of the table, and the columns that it includes follow
abbrev pub index_schema : Schema → Definition → Schema
index_schema schema def = record {
  columns = (map (column_in schema.columns) def.on ++ take schema.keys schema.columns) ++ map (column_in schema.columns) def.include;
  keys = length def.on + schema.keys;
}

-- ---- ranges

-- the key that a bound encodes, if there is a bound: the code of values of the first key columns
abbrev pub bound_as : List Column → ℕ → Option (List (List ℕ)) → Result (Option Key) Refusal
bound_as columns item None = Ok None
bound_as columns item (Some fields) = map_ok (λ values. Some (code_of values)) (prefix_as columns item fields)

-- the range between two bounds; of two refusals the smaller one
abbrev pub range_as : List Column → Option (List (List ℕ)) → Option (List (List ℕ)) → Result KeyRange Refusal
range_as columns from to = map_ok (λ bounds. record { from = bounds.0; to = bounds.1 }) (both_read (bound_as columns 1 from) (bound_as columns 2 to))

-- the range without a bound
abbrev pub all_keys : KeyRange
all_keys = record { from = None; to = None }

-- the rows whose key is in a range, in ascending order of their keys: at or after its lower bound and before its upper one
abbrev pub rows_within : KeyRange → Rows (List Value) → List (List Value)
rows_within range rows = map (λ row. row.1) (between range.from range.to rows)

-- the row that an index has for a row of a table, and its key, if the row passes the filter: the columns that it is ordered by, the key columns of the table,
-- and the included ones
abbrev pub index_row : ℕ → Definition → Key → List Value → Option (Key × List Value)
index_row keys def key row = option_map (λ entry. (entry.0, (picked def.on row ++ take keys row) ++ entry.1)) (entry_of def key row)

-- this result if an index covers all rows; otherwise the index is building
abbrev pub when_whole : {T : Type 0} → Cover → T → Result T Refusal
when_whole cover answer = if is_whole cover then Ok answer else Err Building

-- what is left of a range after a key: it begins at the smallest larger key
abbrev pub range_after : KeyRange → Key → KeyRange
range_after range key = record { from = Some (key ++ 0 ∷ []); to = range.to }

-- the first n of some rows end with a row at this key
abbrev pub EndAt : ℕ → Key → Rows (List Value) → Type 0
EndAt n key rows = (front : Rows (List Value)) × (row : List Value) × (take n rows ≡ front ++ (key, row) ∷ [])

-- a range goes on after a page of another one that ends at a key: it repeats no row and leaves none out
abbrev pub GoesOn : KeyRange → Key → KeyRange → Type 0
GoesOn range key next =
    (rows : Rows (List Value)) (n : ℕ) → T (is_sorted key_cmp rows) → EndAt n key (between range.from range.to rows)
    → between next.from next.to rows ≡ drop n (between range.from range.to rows)

-- what is left of a range before a key
abbrev pub range_before : KeyRange → Key → KeyRange
range_before range key = record { from = range.from; to = Some key }

-- a range goes on before a page from the end of another one that ends at a key: it repeats no row and leaves none out
abbrev pub GoesOnBefore : KeyRange → Key → KeyRange → Type 0
GoesOnBefore range key next =
    (rows : Rows (List Value)) (n : ℕ) → T (is_sorted key_cmp rows) → EndAt n key (reverse (between range.from range.to rows))
    → reverse (between next.from next.to rows) ≡ drop n (reverse (between range.from range.to rows))
