use Rattle.std.proofs.Common.{rules}
use Rattle.bt_snapshot.proofs.Snapshots.{compacted}
use Rattle.bt_snapshot.proofs.compacting.compact.Goals as goal

pub returns-clause-compacted : goal.returns-clause-compacted
returns-clause-compacted g c =
    compacted c.args.table.now c.in-Ok-restore.restored c.in-Ok.snapshot.items (c.is_whole.ensures (search rules)) c.in-Ok.ensures (search rules) c.in-Ok-restore.ensures.consistent
    (c.have_same_definitions.ensures (search rules))
