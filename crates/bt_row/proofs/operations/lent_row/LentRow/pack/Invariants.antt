use Rattle.std.proofs.Common.{◌≡◌, map, take}
use Rattle.bt_value.specs.Views.{value_of_ref}
use Rattle.bt_row.proofs.operations.lent_row.LentRow.pack.Given as goal

abbrev pub invariant-loop-value : goal.invariant-loop-value
invariant-loop-value l = l.row ≡ map value_of_ref (take l.value-index l.values)
