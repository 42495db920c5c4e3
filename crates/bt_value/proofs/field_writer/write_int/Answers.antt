use Rattle.std.proofs.Common.{◌≡◌, rules}
use Rattle.std.specs.Fmt.{signed_decimal}
use Rattle.csv.specs.Writing.{default_writer, field_text}
use Rattle.bt_value.proofs.FieldTexts.{int_field}
use Rattle.bt_value.proofs.field_writer.write_int.Goals as goal

pub returns-clause-text : goal.returns-clause-text
returns-clause-text c =
    let plain : field_text default_writer (signed_decimal c.args.number) ≡ signed_decimal c.args.number = int_field c.args.number c.ranges.number.sfits in
    rw plain (search rules)
