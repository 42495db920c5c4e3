use Rattle.std.proofs.Common.{◌∙◌}
use Rattle.std.specs.Option.{option_copied}
use Rattle.bt_read.proofs.lemmas.code.LentMessages.{all_left}
use Rattle.bt_read.proofs.lent_messages.LentMessages.take_before.Goals as goal

pub returns-clause-left : goal.returns-clause-left
returns-clause-left g c = c.in_default.ensures.first ∙ all_left (option_copied c.args.high) c.loop-key.self _ c.in_default.ensures.none c.loop-key.invariant.left
