use Rattle.std.proofs.Common.{◌∙◌, ◌≡◌, ◌∷◌, None, [], ap, arith, replicate, rules, subst, sym}
use Rattle.std.proofs.lemmas.List.{length-map, nil_from_length}
use Rattle.std.proofs.lemmas.Result.{IfOk-weaker}
use Rattle.bt_plan.specs.Views.{node_place}
use Rattle.bt_gather.specs.Views.{pieces_of}
use Rattle.bt_gather.specs.inside.Views.{node_places}
use Rattle.bt_gather.proofs.PiecesAtHoles.{SlotsSoFar, full, held_there, next_slot, start}
use Rattle.bt_gather.proofs.hole_places.siblings_at_holes.Goals as goal

pub loop-place-init : goal.loop-place-init
loop-place-init g c =
    let hs = node_places c.args.places.now in
    let pieces = pieces_of c.args.pieces.items in
    let gives : c.into_iter-place-iterator.result.rest.items ≡ c.args.pieces.items = search rules in
    let slots = c.in_ok-slots.slots.items in
    let none = c.in_ok-slots.ensures ∙ ap (λ n. replicate n None) (sym (length-map c.args.places.now node_place)) in
    subst (SlotsSoFar hs pieces slots) (sym (ap pieces_of gives)) (start hs pieces c.requires.fit slots none)

pub loop-place-preserved : goal.loop-place-preserved
loop-place-preserved g c =
    let hs = node_places c.args.places.now in
    let pieces = pieces_of c.args.pieces.items in
    let slots = c.loop-place.slots.items in
    let item : c.loop-place.place-iterator.rest.items ≡ (c.in-Some.place, c.in-Some.siblings) ∷ c.next.new.self.rest.items = search rules in
    next_slot hs pieces slots (node_place c.in-Some.place, c.in-Some.siblings) (pieces_of c.next.new.self.rest.items) c.in-Some-hole_at.hole c.requires.rise c.in-Some-hole_at.ensures.stands
    (subst (SlotsSoFar hs pieces slots) (ap pieces_of item) c.loop-place.invariant)

pub all_held-requires : goal.all_held-requires
all_held-requires g c =
    let hs = node_places c.args.places.now in
    let pieces = pieces_of c.args.pieces.items in
    let none : c.loop-place.place-iterator.rest.items ≡ [] = nil_from_length c.loop-place.place-iterator.rest.items (omega (arith, c.in-None.ensures.steps.0)) in
    full hs pieces c.loop-place.slots.items (subst (SlotsSoFar hs pieces c.loop-place.slots.items) (ap pieces_of none) c.loop-place.invariant) c.requires.fit

pub returns : goal.returns
returns g c =
    let hs = node_places c.args.places.now in
    let pieces = pieces_of c.args.pieces.items in
    let none : c.loop-place.place-iterator.rest.items ≡ [] = nil_from_length c.loop-place.place-iterator.rest.items (omega (arith, c.in-None.ensures.steps.0)) in
    IfOk-weaker c.all_held.result _ _
    (λ held e. e ∙ held_there hs pieces c.loop-place.slots.items (subst (SlotsSoFar hs pieces c.loop-place.slots.items) (ap pieces_of none) c.loop-place.invariant)) c.all_held.ensures
