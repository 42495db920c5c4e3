use Rattle.bt_journal.proofs.ChangedBytes.{seeds_tell_frames_apart, salts_are_new}
use Rattle.bt_journal.proofs.laws.salts.Goals as goal

pub returns-clause-apart : goal.returns-clause-apart
returns-clause-apart c = seeds_tell_frames_apart

pub returns-clause-new : goal.returns-clause-new
returns-clause-new c = salts_are_new
