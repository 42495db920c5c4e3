use Rattle.std.proofs.Common.{◌∙◌, Some}
use Rattle.bt_read.proofs.lemmas.code.LentMessages.{all_left}
use Rattle.bt_read.proofs.lent_messages.LentMessages.drop_before.Goals as goal

pub returns : goal.returns
returns g c = c.in_default.ensures.first ∙ all_left (Some c.args.key.now) c.loop.self _ c.in_default.ensures.none c.loop.invariant.left
