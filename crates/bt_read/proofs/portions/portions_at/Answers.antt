use Rattle.std.proofs.Common.{◌∷◌, []}
use Rattle.std.specs.Option.{option_copied}
use Rattle.bt_message.specs.Effects.{effect_of}
use Rattle.bt_form.specs.Portions.{whole}
use Rattle.bt_read.proofs.lemmas.code.PortionSteps.{divide-chain}
use Rattle.bt_read.proofs.portions.portions_at.Goals as goal

pub loop-preserved : goal.loop-preserved
loop-preserved g c =
    divide-chain (effect_of g.V.Merge.terms.merged) (whole (option_copied c.args.from) (option_copied c.args.to) c.args.node.now ∷ []) c.loop.parts.items
    c.in_ok-parts-2.parts.items c.loop.invariant c.in_ok-parts-2.ensures
