use Rattle.std.proofs.Common.{◌≡◌, ◌-◌, ◌∷◌, arith, drop, length, take}
use Rattle.std.proofs.lemmas.Grind.{common_steps}
use Rattle.bt_keycode.proofs.DecodingBytes.{read_plain}
use Rattle.bt_keycode.proofs.decoder.plain_bytes.Goals as goal

pub returns-in-1 : goal.returns-in-1
returns-in-1 c =
    let following = c.in_ok-plain.following.now in
    let rest = take (length following - 1) (drop 1 following) in
    let end : following ≡ 1 ∷ rest = grind (arith, common_steps) in
    read_plain c.args.bytes.now c.in_ok-plain.plain.now following rest c.in_ok-plain.ensures.parts c.in_ok-plain.ensures.first end
