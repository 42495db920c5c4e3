use Rattle.bt_load.proofs.Rows.{answered_rows}
use Rattle.bt_load.proofs.read.read_records_by.Goals as goal

pub returns-clause-rows : goal.returns-clause-rows
returns-clause-rows g c = answered_rows (λ rows. rows.items) c.args.schema.now.columns _ c.rows_of_lines.result c.rows_of_lines.ensures
