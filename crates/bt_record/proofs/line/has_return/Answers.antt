use Rattle.std.proofs.Common.{◌∙◌}
use Rattle.bt_record.proofs.Returns.{found_byte}
use Rattle.bt_record.proofs.line.has_return.Goals as goal

pub returns : goal.returns
returns c = c.is_some.ensures ∙ found_byte 13 c.args.text.now c.memchr.result c.memchr.ensures
