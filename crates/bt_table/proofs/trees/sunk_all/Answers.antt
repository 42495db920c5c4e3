use Rattle.std.proofs.Common.{◌∙◌, ap, arith, length}
use Rattle.std.proofs.lemmas.Slice.Zip.{length-zip}
use Rattle.bt_fanout.specs.Effects.{entry_meaning}
use Rattle.bt_gather.specs.Rounds.{all_sunk}
use Rattle.bt_table.proofs.Sinks.{sunk-zip}
use Rattle.bt_table.proofs.trees.sunk_all.Goals as goal

pub sink-requires-clause-few : goal.sink-requires-clause-few
sink-requires-clause-few g c =
    let pushed = rw (c.requires.rows_room.0) at c.push_reserved.ensures.items in
    let one = ap length pushed in
    let many = ap length c.with_packets-entries.ensures ∙ length-zip c.args.trees.entries.items c.args.packets.items in
    let few = c.requires.few in
    omega (arith, one, many, few)

pub returns-clause-entries : goal.returns-clause-entries
returns-clause-entries g c =
    c.in_ok-rows.ensures.entries ∙ ap (all_sunk entry_meaning) c.with_packets-entries.ensures ∙ sunk-zip c.args.trees.entries.items c.args.packets.items
