-- The packet of a step of building.
use Rattle.std.proofs.Common.{List, ap, ◌∙◌}
use Rattle.bt_value.specs.declared.value.Value.{Value}
use Rattle.bt_value.proofs.offered.SameValues.{same_values-sound}
use Rattle.bt_message.specs.Effects.{Rows, merged_entry, rows_after}
use Rattle.bt_message.specs.Messages.{sorted_batch}
use Rattle.bt_fanout.specs.Covers.{puts_of}
use Rattle.bt_fanout.specs.Effects.{entry_effect}
use Rattle.bt_fanout.specs.Entries.{Definition, StandsUnder, entry_of, same_values}
use Rattle.bt_fanout.specs.Promises.{BuildsFrom, index_of}
use Rattle.bt_fanout.proofs.Builds.{builds}
use Rattle.bt_fanout.proofs.Entries.{apart}

pub builds_from : (def : Definition) (read : Rows (List Value)) → BuildsFrom def read (sorted_batch (puts_of (entry_of def) read))
builds_from def read kinds n cover rows e sorted stand =
    ap (λ next. rows_after entry_effect (sorted_batch (puts_of (entry_of def) next)) (index_of def cover rows)) e
    ∙ builds (entry_of def) same_values same_values-sound merged_entry (StandsUnder def kinds) (apart def kinds) n cover rows sorted stand
