-- How the names of columns, and a filter, make a definition of an index.
use Rattle.std.specs.Prelude.{ℕ, ◌&&◌, List, [], ◌∷◌, length, map, nat_le, Option, Some, None, option_and_then, option_map, Result, Ok, Err, if◌then◌else◌}
use Rattle.std.specs.Result.{result_map_both}
use Rattle.bt_row.specs.Ops.{at_column, named_from}
use Rattle.bt_value.specs.Results.{both_read, or_refused}
use Rattle.bt_row.specs.Schemas.{Schema}
use Rattle.bt_value.specs.Values.{value_of}
use Rattle.bt_value.specs.declared.refusal.Refusal.{Refusal}
use Rattle.bt_value.specs.declared.refusal.Refusal.TheVariants.{BadField, NoSuchColumn, TooMany}
use Rattle.bt_row.specs.declared.rows.schema.Column.{Column}
use Rattle.bt_value.specs.declared.value.Kind.{Kind}
use Rattle.bt_fanout.specs.Entries.{Definition}
use Rattle.bt_fanout.specs.declared.definition.Condition.{Condition}
use Rattle.bt_row.specs.declared.rows.filter.Filter.{Filter}

-- the largest number of columns that an index is ordered by
abbrev pub most_on : ℕ
most_on = 4

-- the largest number of columns that an index includes
abbrev pub most_included : ℕ
most_included = 8

-- the kinds of columns
abbrev pub kinds_of : List Column → List Kind
kinds_of columns = map (λ c. c.kind) columns

-- the places of the columns with these names, in the order of the names, if all of them exist
abbrev pub places_of : List Column → List (List ℕ) → Option (List ℕ)
places_of columns [] = Some []
places_of columns (name ∷ names) = option_and_then (λ c. option_map (λ places. c.0 ∷ places) (places_of columns names)) (named_from 0 name columns)

-- the columns that an index is ordered by and those that it includes, or the refusal of them: too many, or one that doesn't exist
abbrev pub chosen : List Column → List (List ℕ) → List (List ℕ) → Result (List ℕ × List ℕ) Refusal
chosen columns on include =
    if nat_le (length on) most_on && nat_le (length include) most_included
    then or_refused NoSuchColumn (option_and_then (λ first. option_map (λ others. (first, others)) (places_of columns include)) (places_of columns on))
    else Err TooMany

-- the condition of a filter on a column that exists; its constant may not be a value of the column
abbrev pub condition_at : Filter → ℕ × Kind → Result Condition Refusal
condition_at filter column =
    or_refused (BadField 1) (option_map (λ constant. record { place = column.0; test = filter.test; constant = constant }) (value_of column.1 filter.constant))

-- the condition of a filter; without its column there is no kind to read its constant by
abbrev pub condition_of : List Column → Filter → Result Condition Refusal
condition_of columns filter = at_column (condition_at filter) (named_from 0 filter.column columns)

-- the condition of a filter, if there is one
abbrev pub condition_in : List Column → Option Filter → Result (Option Condition) Refusal
condition_in columns None = Ok None
condition_in columns (Some filter) = result_map_both Some (λ e. e) (condition_of columns filter)

-- the definition of an index by names, or the lowest refusal of its filter and of its columns
abbrev pub definition_as : Schema → List (List ℕ) → List (List ℕ) → Option Filter → Result Definition Refusal
definition_as schema on include filter =
    result_map_both (λ read. record { on = read.1.0; include = read.1.1; condition = read.0; keys = schema.keys }) (λ e. e)
    (both_read (condition_in schema.columns filter) (chosen schema.columns on include))
