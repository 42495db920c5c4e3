use Rattle.std.proofs.Common.{rules, ◌∙◌, subst, sym}
use Rattle.std.proofs.lemmas.Result.{IfOk-weaker}
use Rattle.std.specs.Vec.Iter.{into_iter_items}
use Rattle.bt_message.specs.Weights.{weigh_of}
use Rattle.bt_form.specs.Fits.{AreFit, IsRoomy}
use Rattle.bt_gather.specs.Views.{pieces_of}
use Rattle.bt_gather.specs.inside.Views.{node_places}
use Rattle.bt_gather.proofs.FilledInOrder.{are-filling}
use Rattle.bt_gather.proofs.filling.fill_at.Goals as goal

pub fill_node-requires : goal.fill_node-requires
fill_node-requires g c =
    (are-filling (weigh_of g.V.Merge.terms) c.args.holed (pieces_of c.args.pieces.items) c.requires.fillable c.requires.fit (node_places c.args.places.now) c.requires.places
    (into_iter_items c.into_iter-slots.result) (c.into_iter-slots.ensures.rest ∙ c.in_ok-slots.ensures) c.apart-shape.result.0 c.apart-shape.ensures.shape
    c.apart-shape.result.1 c.apart-shape.ensures.root).ready

pub returns : goal.returns
returns g c =
    let weigh = weigh_of g.V.Merge.terms in
    let roomy : IsRoomy c.args.holed.0 = record { fanout = search rules; leaf = search rules } in
    let filling = are-filling weigh c.args.holed (pieces_of c.args.pieces.items) c.requires.fillable c.requires.fit (node_places c.args.places.now) c.requires.places
    (into_iter_items c.into_iter-slots.result) (c.into_iter-slots.ensures.rest ∙ c.in_ok-slots.ensures) c.apart-shape.result.0 c.apart-shape.ensures.shape
    c.apart-shape.result.1 c.apart-shape.ensures.root in
    record {
      siblings = IfOk-weaker c.fill_node.result _ _ (λ xs e. e ∙ filling.give) c.fill_node.ensures.siblings;
      fits = IfOk-weaker c.fill_node.result _ _ (λ xs e. subst (AreFit weigh c.args.holed.0) (sym (e ∙ filling.give)) (filling.fit roomy)) c.fill_node.ensures.siblings;
    }
