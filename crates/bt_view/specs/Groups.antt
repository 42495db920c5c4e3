-- Groups of the rows of a tree of a table.
use Rattle.std.specs.Prelude.{ℕ, List, Option, Result}
use Rattle.bt_value.specs.declared.refusal.Refusal.{Refusal}
use Rattle.bt_table.specs.Calls.{NamedTree, tree_named}
use Rattle.bt_table.specs.Tables.{TableState}
use Rattle.bt_value.specs.Results.{and_then}
use Rattle.bt_view.specs.Ranges.{range_of, rows_of_tree, rows_within, schema_of}
use Rattle.bt_show.specs.declared.groups.Sum.{Sum}
use Rattle.bt_show.specs.declared.range.KeyRange.{KeyRange}
-- those of bt_show
pub use Rattle.bt_show.specs.Groups.{number_of_value, number_in, most_rows, first_values, rows_in_group, total_of, sum_of, unless_too_many, groups_of, int_place, summed_at, summed_place}

-- the groups of the rows of a tree whose keys are in a range, by its first columns, with the sum of the column of this name, or the first of these refusals: of
-- an index that is building, of the columns, and of a group that has too many rows
abbrev pub sums_within : ℕ → List ℕ → NamedTree → KeyRange → Result (List Sum) Refusal
sums_within grouping column tree range =
    and_then (λ rows. and_then (λ place. groups_of grouping place (rows_within range rows))
    (summed_place (schema_of tree).columns (schema_of tree).keys grouping column)) (rows_of_tree tree)

-- the groups of a range of a tree, or the first refusal, which may be that of the bounds
abbrev pub sums_of : ℕ → List ℕ → Option (List (List ℕ)) → Option (List (List ℕ)) → NamedTree → Result (List Sum) Refusal
sums_of grouping column from to tree = and_then (sums_within grouping column tree) (range_of tree from to)

-- the groups of a range of the tree of this name
abbrev pub sums : TableState → List ℕ → ℕ → List ℕ → Option (List (List ℕ)) → Option (List (List ℕ)) → Result (List Sum) Refusal
sums state name grouping column from to = and_then (sums_of grouping column from to) (tree_named state name)
