use Rattle.std.proofs.Common.{arith}
use Rattle.bt_value.specs.Views.{value_of_ref}
use Rattle.bt_row.proofs.RecordTexts.{room_enough}
use Rattle.bt_row.proofs.rows.record_writer.write_field.Goals as goal

pub write-requires : goal.write-requires
write-requires c = record { room = omega (arith, room_enough (value_of_ref c.args.value)) }

pub returns-clause-room : goal.returns-clause-room
returns-clause-room c = omega (arith, room_enough (value_of_ref c.args.value))
