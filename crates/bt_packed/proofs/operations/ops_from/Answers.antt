use Rattle.std.proofs.Common.{rules}
use Rattle.bt_packed.proofs.FirstFaults.{first_op}
use Rattle.bt_packed.proofs.operations.ops_from.Goals as goal

pub returns-in_err-op-clause-fault : goal.returns-in_err-op-clause-fault
returns-in_err-op-clause-fault c = search (rules, c.loop-left.invariant, c.loop-left-test.true, first_op c.args.schema.now c.args.item c.loop-left.left c.loop-left.ops c.loop-left.rest.now)
