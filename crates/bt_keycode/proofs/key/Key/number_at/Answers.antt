use Rattle.std.proofs.Common.{◌+◌, ◌≤◌, ◌∙◌, arith, length}
use Rattle.bt_keycode.proofs.Prefixes.{eight_of_padded}
use Rattle.bt_keycode.proofs.key.Key.number_at.Goals as goal

pub returns : goal.returns
returns c =
    let seen = c.padded.result.now in
    let room : c.args.place + 8 ≤ length seen = omega (arith, c.requires, c.padded.ensures.room) in
    c.eight_at.ensures ∙ eight_of_padded c.args.place (length seen) seen c.args.self.now c.padded.ensures.bytes room
