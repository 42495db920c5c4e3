use Rattle.std.proofs.Common.{◌≡◌, ◌∙◌, ◌++◌, ap, map, subst, take}
use Rattle.std.proofs.Math.Seq.{take-length}
use Rattle.bt_message.specs.Messages.{with_messages}
use Rattle.bt_messages.proofs.offered.Fronts.{sorted_take}
use Rattle.bt_messages.proofs.offered.Placed.{alone}
use Rattle.bt_message.specs.Meanings.{meaning_of}
use Rattle.bt_message.specs.Weights.{weigh_of}
use Rattle.bt_form.specs.Fits.{HasShape}
use Rattle.bt_plan.specs.Cuts.{cut_out, hole_of}
use Rattle.bt_plan.specs.Pieces.{holes, with_holes}
use Rattle.bt_plan.specs.Views.{job_of}
use Rattle.bt_plan.proofs.offered.Cuts.{cut-fills_up, cut-places_rise, cut-stand_in_holes}
use Rattle.bt_plan.proofs.cutting.cut.Goals as goal

pub returns : goal.returns
returns g c =
    let weigh = weigh_of g.V.Merge.terms in
    let meaning = meaning_of g.V.Merge.terms in
    let count = c.len-count.result in
    let stream = c.into_stream-stream.result in
    let all : take count stream ≡ c.args.packet = ap (λ n. take n stream) c.len-count.ensures.len ∙ take-length stream ∙ c.into_stream-stream.ensures in
    let alone_there = alone (take count stream) (sorted_take count stream c.len-count.ensures.sorted) in
    let packet : with_messages (take count stream) c.new.result ≡ c.args.packet = ap (with_messages (take count stream)) c.new.ensures ∙ alone_there ∙ all in
    let apart = c.apart-shape.ensures in
    let shape = apart.shape in
    let root = apart.root in
    let place = c.root.ensures in
    let has = subst (λ s. HasShape weigh s c.args.tree.1) shape (subst (λ r. HasShape weigh c.apart-shape.result.0 r) root apart.fits) in
    record {
      pieces = (
        c.new-2.ensures
            ∙ (λ i. (shape i, c.in_ok-root.ensures.holed i))
            ∙ (λ i. (c.args.tree.0, with_holes hole_of (cut_out weigh c.args.depth c.args.mode (shape i) (place i) (root i) (packet i)))),
        c.in_ok-root.ensures.jobs ∙ (λ i. map job_of (c.new-jobs.ensures.items i) ++ holes (cut_out weigh c.args.depth c.args.mode (shape i) (place i) (root i) (packet i))),
      );
      stand = cut-stand_in_holes meaning c.args.tree_number c.args.tree.0 c.args.tree.1 has c.args.packet c.args.depth c.args.mode;
      rise = cut-places_rise meaning c.args.tree_number c.args.tree.0 c.args.tree.1 has c.args.packet c.args.depth c.args.mode;
      fills = cut-fills_up meaning c.args.tree_number c.args.tree.0 c.args.tree.1 has c.args.packet c.args.depth c.args.mode;
    }
