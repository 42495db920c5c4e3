use Rattle.std.proofs.Common.{arith, length, get_or}
use Rattle.bt_record.proofs.RecordEnds.{is_end_byte, plain_before, plain_ends, plain_last}
use Rattle.bt_record.proofs.records.find_record_end.Goals as goal

pub returns-in_default-clause-ends : goal.returns-in_default-clause-ends
returns-in_default-clause-ends c = plain_last c.args.text.now c.requires (plain_before c.args.text.now (length c.args.text.now) (omega arith) c.in_default.ensures)

pub returns-else-text-place-eq34-clause-ends : goal.returns-else-text-place-eq34-clause-ends
returns-else-text-place-eq34-clause-ends c =
    let text = c.args.text.now in
    let place = c.in-Some.place in
    let first = c.in-Some.ensures in
    plain_ends text place c.requires first.0.high (plain_before text place (omega (arith, first.0.high)) first.0.before) (is_end_byte (get_or text place 0) first.1 c.if-text-place-eq34.false)
