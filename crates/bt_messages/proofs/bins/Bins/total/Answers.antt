use Rattle.std.proofs.Common.{◌∙◌, sym}
use Rattle.bt_messages.proofs.offered.Parts.{length-concatenation}
use Rattle.bt_messages.proofs.bins.Bins.total.Goals as goal

pub returns-clause-concatenation : goal.returns-clause-concatenation
returns-clause-concatenation g c = rw (← c.self.view_is) (c.self.invariant ∙ sym (length-concatenation c.self.inside.bins.items))
