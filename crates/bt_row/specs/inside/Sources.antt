-- The values of an iterator, from a list of them or from the bytes of a row.
use Rattle.std.specs.Prelude.{List}
use Rattle.bt_row.specs.inside.Packing.{IsPacked, unpacked}
use Rattle.bt_value.specs.declared.value.Value.{Value}
use Rattle.bt_row.specs.declared.rows.values.Source.{Source}
use Rattle.bt_row.specs.declared.rows.values.Source.TheVariants.{Listed, Packed}

-- the remaining values
abbrev pub values_left : Source → List Value
values_left (Listed values) = values.now
values_left (Packed bytes) = unpacked bytes.now

-- bytes are those of values
abbrev pub IsSource : Source → Type 0
IsSource (Listed values) = Unit {0}
IsSource (Packed bytes) = IsPacked bytes.now
