use Rattle.std.proofs.Common.{rules, arith}
use Rattle.bt_fanout.proofs.SortedEntries.{all_collected, one_more}
use Rattle.bt_fanout.proofs.building.entries_in_order.Goals as goal

pub loop-row-preserved : goal.loop-row-preserved
loop-row-preserved c =
    one_more c.args.def.now c.args.rows.now c.loop-row.row-index c.row-item.result _ c.loop-row.entries.items c.add_entry.new.entries.items
    (omega arith) c.row-item.is c.loop-row.invariant (search rules)

pub returns : goal.returns
returns c = all_collected c.args.def.now c.args.rows.now c.loop-row.row-index _ c.loop-row.entries.items (omega arith) c.loop-row.invariant
