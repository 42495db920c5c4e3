use Rattle.std.proofs.Common.{ap}
use Rattle.std.specs.Prelude.{reverse}
use Rattle.bt_file.specs.Calls.{events_of}
use Rattle.bt_file.proofs.calls.Calls.new.Goals as goal

pub returns : goal.returns
unfolding events_of
returns c = ap reverse c.new.ensures
