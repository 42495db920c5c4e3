use Rattle.std.proofs.Common.{◌∙◌, ap, length, rules, sym}
use Rattle.bt_keycode.proofs.offered.Occurrences.{written_back}
use Rattle.bt_load.specs.Steps.{AreKeysOrNone}
use Rattle.bt_load.proofs.placed.keys_or_none.Goals as goal

pub returns-clause-encoded : goal.returns-clause-encoded
returns-clause-encoded g c =
    let lent = c.as_mut_slice.ensures in
    let placed = c.in_ok-placed.placed in
    written_back (AreKeysOrNone c.args.keys 0 c.args.rows.now) c.encode_keys.new.placed placed.items placed.len (c.encode_keys.ensures.long ∙ lent.len) (sym (ap length lent.value) ∙ lent.len)
    c.encode_keys.ensures.encoded
