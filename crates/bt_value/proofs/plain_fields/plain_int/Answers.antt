use Rattle.std.proofs.Common.{sym, ◌∙◌}
use Rattle.bt_value.proofs.offered.PlainFields.{minus_end, spelled_minus, spelled_plain}
use Rattle.bt_value.proofs.plain_fields.plain_int.Goals as goal

pub returns-then-begins_with-clause-number : goal.returns-then-begins_with-clause-number
returns-then-begins_with-clause-number c =
    let found = c.in_ok-number.ensures in
    spelled_minus c.args.text.now c.tail.result.now c.in_ok-number.end c.in_ok-number.number (sym c.begins_with.ensures ∙ c.if-begins_with.true) c.tail.ensures found.number found.numeral found.small

pub returns-then-begins_with-clause-ends : goal.returns-then-begins_with-clause-ends
returns-then-begins_with-clause-ends c = minus_end c.args.text.now c.tail.result.now c.in_ok-number.end (sym c.begins_with.ensures ∙ c.if-begins_with.true) c.tail.ensures c.in_ok-number.ensures.ends

pub returns-clause-number : goal.returns-clause-number
returns-clause-number c = spelled_plain c.args.text.now c.plain_number-2.result c.plain_number-2.ensures.number c.plain_number-2.ensures.numeral c.plain_number-2.ensures.small
