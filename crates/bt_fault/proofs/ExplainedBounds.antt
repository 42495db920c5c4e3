-- The reason of the bounds of a range is that of their refusal.
use Rattle.std.proofs.Common.{ℕ, ◌≡◌, ◌∙◌, List, Option, Some, None, refl, sym}
use Rattle.bt_value.specs.Results.{both_read}
use Rattle.bt_value.specs.declared.value.Value.{Value}
use Rattle.bt_row.specs.Schemas.{prefix_as}
use Rattle.bt_row.specs.declared.rows.schema.Column.{Column}
use Rattle.bt_keycode.specs.Codes.{code_of}
use Rattle.bt_keycode.specs.Keys.{Key}
use Rattle.bt_show.specs.Ranges.{bound_as, range_as}
use Rattle.bt_show.specs.declared.range.KeyRange.{KeyRange}
use Rattle.bt_fault.specs.Calls.{bound_reason, range_reason}
use Rattle.bt_fault.specs.Reasons.{Explains}
use Rattle.bt_fault.proofs.Explained.{both_explained, mapped_err, prefix_explained}

bound_explained : (columns : List Column) (item : ℕ) (bound : Option (List (List ℕ))) → Explains (bound_as columns item bound) (bound_reason columns item bound)
bound_explained columns item None = refl
bound_explained columns item (Some fields) =
    prefix_explained columns item fields ∙ sym (mapped_err (λ (values : List Value). Some (code_of values)) (prefix_as columns item fields))

pub range_explained : (columns : List Column) (from to : Option (List (List ℕ))) → Explains (range_as columns from to) (range_reason columns from to)
range_explained columns from to =
    both_explained (bound_as columns 1 from) (bound_as columns 2 to) (bound_reason columns 1 from) (bound_reason columns 2 to) (bound_explained columns 1 from) (bound_explained columns 2 to)
    ∙ sym (mapped_err (λ (bounds : Option Key × Option Key). record { from = bounds.0; to = bounds.1 }) (both_read (bound_as columns 1 from) (bound_as columns 2 to)))
