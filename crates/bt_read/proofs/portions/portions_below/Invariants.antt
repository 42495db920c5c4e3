use Rattle.std.proofs.Common.{◌++◌}
use Rattle.std.specs.Vec.Iter.{into_iter_items}
use Rattle.bt_message.specs.Effects.{effect_of}
use Rattle.bt_form.specs.Portions.{Divide}
use Rattle.bt_read.proofs.portions.portions_below.Given as goal

-- the portions opened so far, and the others as they are
abbrev pub invariant-loop-portion : goal.invariant-loop-portion
invariant-loop-portion g l = Divide (effect_of g.V.Merge.terms.merged) l.fn.portions.items (l.parts.items ++ into_iter_items l.portion-iterator)
