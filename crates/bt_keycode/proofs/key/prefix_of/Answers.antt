use Rattle.std.proofs.Common.{ℕ, ◌<◌, ◌∷◌, [], List, get_or, rules, refl}
use Rattle.std.proofs.lemmas.Nat.{be_bytes_8}
use Rattle.bt_keycode.specs.Codes.{eight_bytes}
use Rattle.bt_keycode.proofs.Paddings.{are_small, first_eight-places}
use Rattle.bt_keycode.proofs.key.prefix_of.Goals as goal

pub returns : goal.returns
unfolding eight_bytes
returns c =
    let xs = c.args.bytes.now in
    let bytes : List ℕ = get_or xs 0 0 ∷ get_or xs 1 0 ∷ get_or xs 2 0 ∷ get_or xs 3 0 ∷ get_or xs 4 0 ∷ get_or xs 5 0 ∷ get_or xs 6 0 ∷ get_or xs 7 0 ∷ [] in
    let small : (i : ℕ) → get_or bytes i 0 < 256 =
    are_small bytes (search rules, (search rules, (search rules, (search rules, (search rules, (search rules, (search rules, (search rules, tt)))))))) in
    let spelled = be_bytes_8 bytes c.from_be_bytes.result refl small c.from_be_bytes.ensures in
    let places = first_eight-places xs in
    cc
