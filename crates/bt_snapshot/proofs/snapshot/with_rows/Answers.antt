use Rattle.std.proofs.Common.{rules, codes, None}
use Rattle.bt_view.specs.Ranges.{scan_with_keys}
use Rattle.bt_snapshot.proofs.Snapshots.{lines_shown}
use Rattle.bt_snapshot.proofs.snapshot.with_rows.Goals as goal

pub returns : goal.returns
returns c = λ rows shown. lines_shown c.args.text.items c.lines.inside.text.items (scan_with_keys c.args.table.now (codes "primary") None None) rows (search rules) shown
