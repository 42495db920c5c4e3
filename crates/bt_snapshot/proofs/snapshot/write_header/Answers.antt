use Rattle.std.proofs.Common.{rules}
use Rattle.bt_snapshot.proofs.Snapshots.{header_written}
use Rattle.bt_snapshot.proofs.snapshot.write_header.Goals as goal

pub returns : goal.returns
returns c =
    header_written c.args.out.now.items c.write_row.new.out.items c.push.new.self.items c.args.columns.now c.in_ok-names.names (search rules) (search rules) (search rules)
