use Rattle.std.proofs.Common.{◌≡◌, ◌≤◌, ◌+◌, ◌-◌, ◌^◌, ℕ, List, ap, arith, drop, length, min}
use Rattle.std.proofs.lemmas.List.{drop_all}
use Rattle.bt_value.specs.declared.value.Value.{Value}
use Rattle.bt_row.specs.inside.Packing.{packed_values}
use Rattle.bt_row.proofs.rows.row.room_for_values.Goals as goal

-- no value is left
all_counted : (values : List Value) (i room : ℕ) → length values ≤ i → room ≤ 2 ^ 64 - 1
    → min (room + length (packed_values (drop i values))) (2 ^ 64 - 1) ≡ min (length (packed_values values)) (2 ^ 64 - 1)
    → room ≡ min (length (packed_values values)) (2 ^ 64 - 1)
all_counted values i room past small so_far = omega (arith, ap (λ (vs : List Value). length (packed_values vs)) (drop_all i values past))

pub returns : goal.returns
returns c = all_counted c.args.values.now c.loop-value.value-index c.loop-value.room c.loop-value-test.false c.loop-value.invariant.small c.loop-value.invariant.bytes
