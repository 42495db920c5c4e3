-- Lets the definitions of fields and records compute on literals.
use Rattle.std.specs.Prelude.{⊤}
use Rattle.std.specs.Fmt.{digits}
use Rattle.csv.proofs.OnLiterals.{csv_on_literals}
use Rattle.csv.specs.Writing.{fields_text, is_blank}
use Rattle.bt_value.specs.Hex.{bytes_of_hex}
use Rattle.bt_value.specs.Ints.{int_of}

unfoldable pub values_on_literals : ⊤
unfolding csv_on_literals fields_text is_blank int_of digits bytes_of_hex
values_on_literals = tt
