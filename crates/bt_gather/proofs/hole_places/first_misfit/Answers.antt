use Rattle.std.proofs.Common.{◌∙◌, Some, ap, arith, false, replicate, subst, sym}
use Rattle.std.proofs.lemmas.List.{drop_all, length-map}
use Rattle.bt_plan.specs.Views.{node_place}
use Rattle.bt_gather.specs.Misfits.{double}
use Rattle.bt_gather.specs.Views.{pieces_of}
use Rattle.bt_gather.specs.inside.Marks.{first_unmarked}
use Rattle.bt_gather.specs.inside.Views.{node_places}
use Rattle.bt_gather.proofs.SeenPieces.{Marking, all_came, first_came, none_came, second_came}
use Rattle.bt_gather.proofs.hole_places.first_misfit.Goals as goal

pub loop-piece-init : goal.loop-piece-init
loop-piece-init g c =
    none_came (node_places c.args.places.now) (pieces_of c.args.pieces.now) c.in_ok-marks.marks.items
    (c.in_ok-marks.ensures ∙ ap (λ n. replicate n false) (sym (length-map c.args.places.now node_place)))

pub returns-then-index : goal.returns-then-index
returns-then-index g c =
    ap (λ p. Some (double p)) c.copy-then-index.ensures
    ∙ second_came (node_places c.args.places.now) c.args.pieces.now c.loop-piece.piece-index c.piece-item.result (omega arith) c.piece-item.is c.loop-piece.marks.items c.loop-piece.invariant
    c.in-Some.hole c.in-Some.ensures.stands c.index.result.now c.index.ensures c.if-index.true

pub loop-piece-preserved : goal.loop-piece-preserved
loop-piece-preserved g c =
    first_came (node_places c.args.places.now) c.args.pieces.now c.loop-piece.piece-index c.piece-item.result (omega arith) c.piece-item.is c.loop-piece.marks.items c.loop-piece.invariant
    c.in-Some.hole c.in-Some.ensures.stands c.index.result.now c.index.ensures c.requires c.if-index.false

pub returns : goal.returns
returns g c =
    let hs = node_places c.args.places.now in
    let pieces = pieces_of c.args.pieces.now in
    let marks = c.loop-piece.marks.items in
    let none = drop_all c.loop-piece.piece-index c.args.pieces.now (omega arith) in
    c.first_unmarked.ensures
    ∙ ap (first_unmarked hs) c.as_slice.ensures.value
    ∙ all_came hs pieces marks (subst (λ ps. Marking hs pieces marks (pieces_of ps)) none c.loop-piece.invariant)
