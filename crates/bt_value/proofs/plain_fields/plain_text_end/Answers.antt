use Rattle.std.proofs.Common.{arith}
use Rattle.bt_value.proofs.offered.PlainFields.{plain_is_text}
use Rattle.bt_value.proofs.plain_fields.plain_text_end.Goals as goal

pub returns-clause-text : goal.returns-clause-text
returns-clause-text c = plain_is_text c.args.text.now c.in_ok-end.end c.in_ok-end.ensures (omega (arith, c.if-end-gt-MOST_VALUE_BYTES.false))
