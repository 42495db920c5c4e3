use Rattle.bt_journal.proofs.ChangedBytes.{damage_is_noticed, damage_is_told}
use Rattle.bt_journal.proofs.laws.damage.Goals as goal

pub returns-clause-noticed : goal.returns-clause-noticed
returns-clause-noticed c = damage_is_noticed

pub returns-clause-told : goal.returns-clause-told
returns-clause-told c = damage_is_told
