use Rattle.std.proofs.Common.{inl, inr, refl}
use Rattle.test_cuts.proofs.pieces.turned.Goals as goal

pub returns-in-Rising : goal.returns-in-Rising
returns-in-Rising g c = inl refl

pub returns-in-Falling : goal.returns-in-Falling
returns-in-Falling g c = inr c.reversed.ensures
