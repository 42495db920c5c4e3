use Rattle.std.proofs.Common.{refl}
use Rattle.bt_messages.proofs.bounds.count_before_bound.Goals as goal

pub returns-in-Some-clause-cut : goal.returns-in-Some-clause-cut
returns-in-Some-clause-cut g c = rw c.in-Some.is (c.count_before.ensures.before, c.count_before.ensures.from)

pub returns-in-None-clause-cut : goal.returns-in-None-clause-cut
returns-in-None-clause-cut g c = rw c.in-None.is refl
