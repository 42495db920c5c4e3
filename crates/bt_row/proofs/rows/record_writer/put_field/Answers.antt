use Rattle.std.proofs.Common.{arith}
use Rattle.bt_value.specs.Views.{value_of_ref}
use Rattle.bt_row.proofs.RecordTexts.{room_enough}
use Rattle.bt_row.proofs.rows.record_writer.put_field.Goals as goal

pub put-requires : goal.put-requires
put-requires c = omega (arith, c.requires, c.put_separator-start.ensures.room, room_enough (value_of_ref c.args.value))

pub returns-clause-room : goal.returns-clause-room
returns-clause-room c = omega (arith, c.put_separator-start.ensures.room, c.put.ensures.room, room_enough (value_of_ref c.args.value))
