use Rattle.std.proofs.Common.{subst}
use Rattle.bt_load.specs.inside.Sorts.{HaveKeys}
use Rattle.bt_load.proofs.Encoded.{all_keys}
use Rattle.bt_load.proofs.placed.placed_keys.Goals as goal

pub returns-then-all_have_keys : goal.returns-then-all_have_keys
returns-then-all_have_keys g c =
    let made = c.in_ok-placed.ensures in
    let placed = c.in_ok-placed.placed.items in
    let some : HaveKeys placed = subst HaveKeys c.as_slice.ensures.value (c.all_have_keys.ensures c.if-all_have_keys.true) in
    all_keys c.args.keys c.args.rows.now placed made.long made.encoded some
