use Rattle.std.proofs.Common.{◌∙◌}
use Rattle.bt_row.proofs.Walks.{none_left}
use Rattle.bt_row.proofs.rows.values.holds_none.Goals as goal

pub returns : goal.returns
returns c = c.is_empty.ensures ∙ none_left c.args.bytes.now c.requires
