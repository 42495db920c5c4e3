use Rattle.std.proofs.Common.{◌∙◌, ap}
use Rattle.std.specs.declared.option.Option.TheVariants.{None}
use Rattle.bt_message.specs.Effects.{effect_of}
use Rattle.bt_form.specs.Flushes.{holds}
use Rattle.bt_form.specs.Messages.{rows_after}
use Rattle.bt_flush.proofs.offered.Laws.{anywhere}
use Rattle.bt_node.proofs.tree.Tree.sink.Goals as goal

pub absorb_alone-requires : goal.absorb_alone-requires
absorb_alone-requires g c = let has = c.apart-shape.ensures.fits in record { in_order = (has.levels, None, None, has.fits.lies) }

pub crown-requires : goal.crown-requires
crown-requires g c =
    let has = c.apart-shape.ensures.fits in
    (has.levels, c.in_ok-siblings.ensures.fits has.levels None None has.fits (anywhere c.args.packet))

pub returns-clause-rows : goal.returns-clause-rows
returns-clause-rows g c =
    let has = c.apart-shape.ensures.fits in
    c.in_ok-crown.ensures.rows ∙ c.in_ok-siblings.ensures.rows has.levels None None has.fits (anywhere c.args.packet)
    ∙ ap (λ t. rows_after (effect_of g.V.Merge.terms.merged) c.args.packet (holds (effect_of g.V.Merge.terms.merged) t)) c.apart-shape.ensures.root
