-- Sums of the groups of a range of keys, which may have no columns, and no summed column.
use Rattle.std.specs.Prelude.{ℕ, zero, suc, List, [], ◌∷◌, length, map, nat_le, Option, Result, Ok, Err, if◌then◌else◌}
use Rattle.bt_value.specs.Results.{and_then}
use Rattle.bt_value.specs.declared.refusal.Refusal.{Refusal}
use Rattle.bt_value.specs.declared.refusal.Refusal.TheVariants.{NoSuchColumn}
use Rattle.bt_value.specs.declared.value.Kind.{Kind}
use Rattle.bt_value.specs.declared.value.Value.{Value}
use Rattle.bt_row.specs.Ops.{at_column, named_from}
use Rattle.bt_row.specs.declared.rows.schema.Column.{Column}
use Rattle.bt_table.specs.Calls.{NamedTree, tree_named}
use Rattle.bt_table.specs.Tables.{TableState}
use Rattle.bt_view.specs.Groups.{first_values, int_place, sum_of, total_of, unless_too_many}
use Rattle.bt_view.specs.Ranges.{rows_of_tree, rows_within, schema_of}
use Rattle.bt_show.specs.declared.groups.Sum.{Sum}
use Rattle.bt_show.specs.declared.range.KeyRange.{KeyRange}

-- all rows as one group, which has no columns
abbrev pub whole_group : ℕ → List (List Value) → Sum
whole_group place rows = record { group = []; count = length rows; total = total_of place rows }

-- the groups of rows by their first columns; without columns they are one group, even if there are no rows
abbrev pub groups_by : ℕ → ℕ → List (List Value) → List Sum
groups_by zero place rows = whole_group place rows ∷ []
groups_by (suc columns) place rows = map (sum_of (suc columns) place rows) (first_values (suc columns) rows)

-- the place of no column: no row has a value there, so its number is 0
abbrev pub no_column : ℕ
no_column = 18446744073709551615

-- the place of the column that is summed: that of no column without a name, and otherwise that of an int column of the name
abbrev pub named_place : List ℕ → Option (ℕ × Kind) → Result ℕ Refusal
named_place [] found = Ok no_column
named_place (byte ∷ name) found = at_column int_place found

-- the same, if a group has at most the key columns
abbrev pub place_at : ℕ → ℕ → List ℕ → Option (ℕ × Kind) → Result ℕ Refusal
place_at keys grouping name found = if nat_le grouping keys then named_place name found else Err NoSuchColumn

-- the place of the column of this name, which may be empty
abbrev pub place_in_range : List Column → ℕ → ℕ → List ℕ → Result ℕ Refusal
place_in_range columns keys grouping name = place_at keys grouping name (named_from 0 name columns)

-- the groups of the rows of a tree whose keys are in a range, by its first columns, with the sum of the column of this name, or the first of these refusals: of
-- an index that is building, of the columns, and of a group that has too many rows
abbrev pub groups_within : ℕ → List ℕ → NamedTree → KeyRange → Result (List Sum) Refusal
groups_within grouping column tree range =
    and_then (λ rows. and_then (λ place. unless_too_many (groups_by grouping place (rows_within range rows)))
    (place_in_range (schema_of tree).columns (schema_of tree).keys grouping column)) (rows_of_tree tree)

-- the groups of a range of keys of the tree of this name
abbrev pub sums_between : TableState → List ℕ → ℕ → List ℕ → KeyRange → Result (List Sum) Refusal
sums_between state name grouping column range = and_then (λ tree. groups_within grouping column tree range) (tree_named state name)
