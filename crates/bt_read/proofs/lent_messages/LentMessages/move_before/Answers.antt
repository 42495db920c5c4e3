use Rattle.std.proofs.Common.{◌∙◌, Some}
use Rattle.bt_read.proofs.lemmas.code.LentMessages.{all_left}
use Rattle.bt_read.proofs.lent_messages.LentMessages.move_before.Goals as goal

pub returns-clause-left : goal.returns-clause-left
returns-clause-left g c = c.in_default.ensures.first ∙ all_left (Some c.args.key.now) c.loop-at.others _ c.in_default.ensures.none c.loop-at.invariant.left
