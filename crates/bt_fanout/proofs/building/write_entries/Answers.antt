use Rattle.std.proofs.Common.{arith, length, rules}
use Rattle.bt_fanout.proofs.SortedEntries.{set_entry}
use Rattle.bt_fanout.proofs.building.write_entries.Goals as goal

pub loop-offset-preserved : goal.loop-offset-preserved
loop-offset-preserved c = record {
  long = search rules;
  made = set_entry c.args.def.now c.args.rows.now c.args.start c.loop-offset.offset c.loop-offset.piece c.entry_or_failed.result (search rules) c.loop-offset.invariant.made
      c.index-rows-start.result (search (arith, rules)) c.index-rows-start.is c.entry_or_failed.ensures;
}
