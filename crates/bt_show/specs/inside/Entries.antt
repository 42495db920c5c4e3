-- Entries of an index as rows, in the order of a walk of its tree.
use Rattle.std.specs.List.{filter_map}
use Rattle.std.specs.Prelude.{◌++◌, List, map, take, Option, Some, None, option_map}
use Rattle.bt_row.specs.Schemas.{Schema}
use Rattle.bt_value.specs.declared.value.Kind.{Kind}
use Rattle.bt_value.specs.declared.value.Value.{Value}
use Rattle.bt_keycode.specs.Decodings.{decoded}
use Rattle.bt_keycode.specs.Keys.{Key}
use Rattle.bt_fanout.specs.Entries.{Definition}
use Rattle.bt_show.specs.Ranges.{index_schema}

-- the kinds of the columns of the key of an index
abbrev pub index_kinds : Schema → Definition → List Kind
index_kinds schema def = map (λ c. c.kind) (take (index_schema schema def).keys (index_schema schema def).columns)

-- the row of an entry whose key is the code of values of these kinds: these values, followed by the included ones
abbrev pub row_of_entry : List Kind → Key × List Value → Option (List Value)
row_of_entry kinds entry = option_map (λ values. values ++ entry.1) (decoded kinds entry.0)

-- the row of an entry by its key
abbrev pub pair_of_entry : List Kind → Key × List Value → Option (Key × List Value)
pair_of_entry kinds entry = option_map (λ row. (entry.0, row)) (row_of_entry kinds entry)

-- a visitor of rows after a row, if there is one
abbrev pub with_pair : {S : Type 0} → (S → Key × List Value → S) → S → Option (Key × List Value) → S
with_pair visited visitor None = visitor
with_pair visited visitor (Some row) = visited visitor row

-- a visitor of rows after an entry
abbrev pub and_entry : {S : Type 0} → (S → Key × List Value → S) → List Kind → S → Key × List Value → S
and_entry visited kinds visitor entry = with_pair visited visitor (pair_of_entry kinds entry)

-- the same with the kinds beside it
abbrev pub after_entry : {S : Type 0} → (S → Key × List Value → S) → List Kind × S → Key × List Value → List Kind × S
after_entry visited r entry = (r.0, and_entry visited r.0 r.1 entry)

-- the rows of entries by their keys
abbrev pub rows_of_entries : List Kind → List (Key × List Value) → List (Key × List Value)
rows_of_entries kinds entries = filter_map (pair_of_entry kinds) entries
