use Rattle.std.proofs.Common.{◌≡◌, ◌≤◌, ◌+◌, ◌-◌, ◌^◌, drop, length, min}
use Rattle.bt_row.specs.inside.Packing.{packed_values}
use Rattle.bt_row.proofs.rows.row.room_for_values.Given as goal

-- the bytes so far, and those of the remaining values
abbrev pub invariant-loop-value : goal.invariant-loop-value
invariant-loop-value l = record {
  bytes : min (l.room + length (packed_values (drop l.value-index l.values))) (2 ^ 64 - 1) ≡ min (length (packed_values l.values)) (2 ^ 64 - 1);
  small : l.room ≤ 2 ^ 64 - 1;
}
