use Rattle.std.proofs.Common.{rules}
use Rattle.bt_packed.specs.Calls.{packed_rows}
use Rattle.bt_packed.proofs.PageReplies.{not_replied, replied}
use Rattle.bt_packed.proofs.calls.last_rows_between.Goals as goal

pub returns-in-Ok-clause-done : goal.returns-in-Ok-clause-done
returns-in-Ok-clause-done c = search (rules, replied packed_rows)

pub returns-in-Err-clause-fault : goal.returns-in-Err-clause-fault
returns-in-Err-clause-fault c = search (rules, not_replied packed_rows)
