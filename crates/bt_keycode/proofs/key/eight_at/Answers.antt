use Rattle.std.proofs.Common.{◌∙◌, ap}
use Rattle.std.proofs.lemmas.List.{take_rest}
use Rattle.bt_keycode.specs.Prefixes.{first_eight}
use Rattle.bt_keycode.proofs.key.eight_at.Goals as goal

pub returns : goal.returns
returns c = c.prefix_of.ensures ∙ ap first_eight (take_rest c.args.bytes.now c.args.place)
