use Rattle.std.proofs.Common.{arith}
use Rattle.bt_journal.proofs.ReadFiles.{short_none}
use Rattle.bt_journal.proofs.replay.Replay.new.Goals as goal

pub returns-clause-nothing : goal.returns-clause-nothing
returns-clause-nothing g c = record { none = short_none _ (omega arith); rest = c.new.ensures.items; state = c.requires }
