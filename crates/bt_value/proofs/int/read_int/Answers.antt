use Rattle.std.proofs.Common.{◌∙◌, sym}
use Rattle.bt_value.proofs.IntTexts.{plain_short}
use Rattle.bt_value.proofs.int.read_int.Goals as goal

pub returns : goal.returns
returns c = c.short_number.ensures.number ∙ sym (plain_short c.args.field.now (sym c.begins_with.ensures ∙ c.if-begins_with.false) c.short_number.ensures.small)
