use Rattle.bt_laws.proofs.CompactedTables.{is_rebuilt}
use Rattle.bt_laws.proofs.compacted.compacted_tables.Goals as goal

pub returns : goal.returns
returns c = record { rebuilt = λ table new rows stored header shown compacted. is_rebuilt table new rows stored header shown compacted }
