use Rattle.std.proofs.Common.{sym}
use Rattle.bt_journal.proofs.HeadFrames.{long_if_some}
use Rattle.bt_journal.proofs.head.Head.at.Goals as goal

pub returns-in-Some-clause-long : goal.returns-in-Some-clause-long
returns-in-Some-clause-long c = long_if_some c.args.file.now c.in-Some.payload.now c.head_of.result (sym c.in-Some.ensures) c.head_of.ensures
