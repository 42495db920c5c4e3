use Rattle.std.proofs.Common.{rules}
use Rattle.bt_message.specs.Meanings.{meaning_of}
use Rattle.bt_gather.specs.Views.{pieces_of}
use Rattle.bt_form.specs.Fits.{IsRoomy}
use Rattle.bt_form.specs.declared.mode.Mode.TheVariants.{Absorb}
use Rattle.test_cuts.proofs.Turning.{cut-in_order, cut-odd}
use Rattle.test_cuts.proofs.odd.misfit_of.Goals as goal

pub odd_pieces-requires : goal.odd_pieces-requires
odd_pieces-requires g c =
    let roomy : IsRoomy c.shape-shape.result = record { fanout = search rules; leaf = search rules } in
    let cut = c.in_ok-holed.ensures in
    cut-in_order (meaning_of g.V.Merge.terms) c.shape-shape.result roomy c.in_ok-holed.holed c.in_ok-holed.jobs.items c.args.tree c.shape-shape.ensures 0
    c.args.packet c.args.depth Absorb cut.pieces cut.stand cut.rise

pub fill-requires : goal.fill-requires
fill-requires g c =
    let roomy : IsRoomy c.shape-shape.result = record { fanout = search rules; leaf = search rules } in
    let cut = c.in_ok-holed.ensures in
    cut-odd (meaning_of g.V.Merge.terms) c.shape-shape.result roomy c.in_ok-holed.holed c.in_ok-holed.jobs.items c.args.tree c.shape-shape.ensures 0
    c.args.packet c.args.depth Absorb cut.pieces cut.stand cut.rise
    (pieces_of c.in-Some.pieces.items) (search rules)
