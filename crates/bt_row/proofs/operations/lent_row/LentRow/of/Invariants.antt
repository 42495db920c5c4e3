use Rattle.std.proofs.Common.{◌≡◌, ◌++◌, length, map}
use Rattle.std.specs.List.{All}
use Rattle.bt_value.specs.Values.{BytesFit}
use Rattle.bt_value.specs.Views.{value_of_ref}
use Rattle.bt_row.proofs.operations.lent_row.LentRow.of.Given as goal

abbrev pub invariant-loop-value : goal.invariant-loop-value
invariant-loop-value l = record {
  values : map value_of_ref l.values.items ++ l.rest ≡ l.row;
  text : All BytesFit (map value_of_ref l.values.items);
}

abbrev pub decreases-loop-value : goal.decreases-loop-value
decreases-loop-value l = length l.rest
