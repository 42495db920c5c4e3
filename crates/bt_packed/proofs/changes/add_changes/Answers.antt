use Rattle.std.proofs.Common.{rules}
use Rattle.bt_packed.proofs.FirstFaults.{first_change}
use Rattle.bt_packed.proofs.changes.add_changes.Goals as goal

pub returns-in_err-rest-clause-fault : goal.returns-in_err-rest-clause-fault
returns-in_err-rest-clause-fault c = search (rules, c.loop-left.invariant, c.loop-left-test.true, first_change c.loop-left.left c.loop-left.changes c.loop-left.rest.now)
