use Rattle.std.proofs.Common.{rules}
use Rattle.bt_packed.proofs.FirstFaults.{first_some}
use Rattle.bt_packed.proofs.pieces.add_some.Goals as goal

pub returns-in_default : goal.returns-in_default
returns-in_default c = search (rules, c.loop-left.invariant, c.loop-left-test.true, first_some c.loop-left.left c.loop-left.changes c.loop-left.rest.now)
