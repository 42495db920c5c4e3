-- Records that are typed one after the other, and rows that all have values.
use Rattle.std.specs.Prelude.{ℕ, ◌≡◌, ◌≢◌, ◌<◌, List, [], length, slice_index_or}
use Rattle.std.specs.List.{filter_map}
use Rattle.std.specs.Result.{result_err, result_ok}
use Rattle.bt_value.specs.Refusals.{lowest}
use Rattle.bt_value.specs.declared.collected.Collected.{Collected}
use Rattle.bt_row.specs.declared.rows.schema.Column.{Column}
use Rattle.bt_value.specs.declared.value.Value.{Value}
use Rattle.bt_load.specs.Loads.{typed_from}

-- the result of reading records, the first of them as this item: their rows, and the lowest refusal
pub record IsReadingOf (columns : List Column) (item : ℕ) (records : List (List (List ℕ))) (read : Collected (List Value)) : Type 0 where
  pub values : read.values ≡ filter_map result_ok (typed_from columns item records)
  pub refusal : read.refusal ≡ lowest (filter_map result_err (typed_from columns item records))

-- each row has a value
abbrev pub HaveValues : List (List Value) → Type 0
HaveValues rows = (k : ℕ) → k < length rows → slice_index_or rows k [] ≢ []
