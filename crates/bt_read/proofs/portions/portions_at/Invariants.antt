use Rattle.std.proofs.Common.{◌∷◌, []}
use Rattle.std.specs.Option.{option_copied}
use Rattle.bt_message.specs.Effects.{effect_of}
use Rattle.bt_form.specs.Portions.{Divide, whole}
use Rattle.bt_read.proofs.portions.portions_at.Given as goal

abbrev pub invariant-loop : goal.invariant-loop
invariant-loop g l = Divide (effect_of g.V.Merge.terms.merged) (whole (option_copied l.fn.from) (option_copied l.fn.to) l.fn.node ∷ []) l.parts.items
