use Rattle.std.proofs.Common.{◌∙◌, sym}
use Rattle.bt_record.proofs.RecordsOf.{line_end_first, none_left}
use Rattle.bt_record.proofs.records.skip_line_ends.Goals as goal

pub loop-rest-preserved : goal.loop-rest-preserved
loop-rest-preserved c = line_end_first c.loop-rest.rest.now c.in-len1-up.len_at_least c.if-not-is_line_end.ensures ∙ c.loop-rest.invariant

pub returns : goal.returns
returns c = sym c.loop-rest.invariant ∙ none_left c.loop-rest.rest.now c.in_default.len_below
