-- Groups of rows: how many rows each has, and the sum of a column.
use Rattle.std.specs.Prelude.{ℕ, ◌&&◌, false, List, [], ◌∷◌, filter, fold, get_or, length, map, nat_le, take, Option, Result, Ok, Err, if◌then◌else◌, ℤ, pos, ◌+ℤ◌}
use Rattle.std.specs.FinMap.{put}
use Rattle.std.specs.List.{list_all}
use Rattle.std.specs.Ordering.{eq_by_cmp}
use Rattle.bt_row.specs.Ops.{at_column, named_from}
use Rattle.bt_value.specs.declared.refusal.Refusal.{Refusal}
use Rattle.bt_value.specs.declared.refusal.Refusal.TheVariants.{NoSuchColumn, NotInt, TooMany}
use Rattle.bt_row.specs.declared.rows.schema.Column.{Column}
use Rattle.bt_value.specs.declared.value.Kind.{Kind}
use Rattle.bt_value.specs.declared.value.Kind.TheVariants as kind
use Rattle.bt_value.specs.declared.value.Value.{Value}
use Rattle.bt_value.specs.declared.value.Value.TheVariants as value
use Rattle.bt_keycode.specs.Codes.{code_of}
use Rattle.bt_keycode.specs.Keys.{Key, key_cmp}
use Rattle.bt_form.specs.Messages.{Rows}
use Rattle.bt_show.specs.declared.groups.Sum.{Sum}

-- the number that a value is; 0 if it is not int
abbrev pub number_of_value : Value → ℤ
number_of_value (value.Int n) = n
number_of_value other = pos 0

-- the number at a place of a row
abbrev pub number_in : List Value → ℕ → ℤ
number_in row place = number_of_value (get_or row place (value.Flag false))

-- the largest number of rows of a group
abbrev pub most_rows : ℕ
most_rows = 18446744073709551615

-- the first values of rows, each under its code
abbrev pub first_values : ℕ → List (List Value) → Rows (List Value)
first_values columns [] = []
first_values columns (row ∷ rows) = put key_cmp (code_of (take columns row)) (take columns row) (first_values columns rows)

-- the rows whose first values have this code
abbrev pub rows_in_group : ℕ → Key → List (List Value) → List (List Value)
rows_in_group columns key rows = filter (λ row. eq_by_cmp key_cmp key (code_of (take columns row))) rows

-- the sum of the numbers at a place of rows
abbrev pub total_of : ℕ → List (List Value) → ℤ
total_of place rows = fold (λ total row. total +ℤ number_in row place) (pos 0) rows

-- of the rows with the same first values, the number of them, and the sum of the numbers at a place
abbrev pub sum_of : ℕ → ℕ → List (List Value) → Key × List Value → Sum
sum_of columns place rows group =
    record { group = group.1; count = length (rows_in_group columns group.0 rows); total = total_of place (rows_in_group columns group.0 rows) }

-- these groups, unless one has more rows than can be counted
abbrev pub unless_too_many : List Sum → Result (List Sum) Refusal
unless_too_many groups = if list_all (λ group. nat_le group.count most_rows) groups then Ok groups else Err TooMany

-- the groups of rows by their first columns with the sum of the column at a place, in order, or that one has too many rows
abbrev pub groups_of : ℕ → ℕ → List (List Value) → Result (List Sum) Refusal
groups_of columns place rows = unless_too_many (map (sum_of columns place rows) (first_values columns rows))

-- the place of a column that is summed: it is int
abbrev pub int_place : ℕ × Kind → Result ℕ Refusal
int_place (place, kind.Int) = Ok place
int_place (place, other) = Err NotInt

-- the place of a column that is summed, if one of its name was found and a group has at least one column and at most the key columns
abbrev pub summed_at : ℕ → ℕ → Option (ℕ × Kind) → Result ℕ Refusal
summed_at keys grouping found = if nat_le 1 grouping && nat_le grouping keys then at_column int_place found else Err NoSuchColumn

-- the place of the column of this name that is summed
abbrev pub summed_place : List Column → ℕ → ℕ → List ℕ → Result ℕ Refusal
summed_place columns keys grouping name = summed_at keys grouping (named_from 0 name columns)
