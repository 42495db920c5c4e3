use Rattle.std.proofs.Common.{◌≡◌, rules, subst}
use Rattle.bt_message.specs.Meanings.{meaning_of}
use Rattle.bt_message.specs.Weights.{weigh_of}
use Rattle.bt_form.specs.Fits.{AreFit, IsRoomy}
use Rattle.test_cuts.proofs.Turning.{cut-in_order, cut-turned, turned-in_order}
use Rattle.test_cuts.proofs.pieces.in_pieces.Goals as goal

pub run_all-requires : goal.run_all-requires
run_all-requires g c =
    let roomy : IsRoomy c.shape-shape.result = record { fanout = search rules; leaf = search rules } in
    let cut = c.in_ok-holed.ensures in
    turned-in_order c.in_ok-holed.jobs.items c.turned.result.items c.turned.ensures
    (cut-in_order (meaning_of g.V.Merge.terms) c.shape-shape.result roomy c.in_ok-holed.holed c.in_ok-holed.jobs.items c.args.tree c.shape-shape.ensures 0
    c.args.packet c.args.depth c.args.mode cut.pieces cut.stand cut.rise)

pub fill-requires : goal.fill-requires
fill-requires g c =
    let roomy : IsRoomy c.shape-shape.result = record { fanout = search rules; leaf = search rules } in
    let cut = c.in_ok-holed.ensures in
    cut-turned (meaning_of g.V.Merge.terms) c.shape-shape.result roomy c.in_ok-holed.holed c.in_ok-holed.jobs.items c.args.tree c.shape-shape.ensures 0
    c.args.packet c.args.depth c.args.mode cut.pieces cut.stand cut.rise
    c.turned.result.items c.turned.ensures _ c.in-Ok.ensures

pub crown-requires : goal.crown-requires
crown-requires g c =
    let same : c.in_ok-holed.holed.0 ≡ c.shape-shape.result = search rules in
    subst (λ s. AreFit (weigh_of g.V.Merge.terms) s c.in_ok-siblings.siblings) same c.in_ok-siblings.ensures.fits
