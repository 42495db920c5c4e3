use Rattle.std.proofs.Common.{rules, sym}
use Rattle.bt_flush.proofs.lemmas.code.ChoiceLoop.{none_planned, turn-below, turn-less, turn-planned, turn_taken}
use Rattle.bt_flush.proofs.planning.next_planned.Goals as goal

pub returns-then-are_within-clause-found : goal.returns-then-are_within-clause-found
returns-then-are_within-clause-found c = none_planned c.args.rest.now c.args.capacity c.are_within.result c.if-are_within.true c.are_within.ensures

pub offset_bounds-rest-place : goal.offset_bounds-rest-place
offset_bounds-rest-place c =
    let below = turn-below _ _ _ (turn_taken c.args.rest.now c.args.capacity c.fullest_place-place.result c.are_within.result c.if-are_within.false
    c.are_within.ensures c.fullest_place-place.ensures) in
    search rules

pub bounds-rest-place : goal.bounds-rest-place
bounds-rest-place c = turn-below _ _ _ (turn_taken c.args.rest.now c.args.capacity c.fullest_place-place.result c.are_within.result c.if-are_within.false
    c.are_within.ensures c.fullest_place-place.ensures)

pub returns-clause-found : goal.returns-clause-found
returns-clause-found c = sym (turn-planned _ _ _
    (turn_taken c.args.rest.now c.args.capacity c.fullest_place-place.result c.are_within.result c.if-are_within.false c.are_within.ensures
    c.fullest_place-place.ensures))

pub returns-clause-place : goal.returns-clause-place
returns-clause-place c = turn-below _ _ _ (turn_taken c.args.rest.now c.args.capacity c.fullest_place-place.result c.are_within.result c.if-are_within.false
    c.are_within.ensures c.fullest_place-place.ensures)

pub returns-clause-fewer : goal.returns-clause-fewer
returns-clause-fewer c = turn-less _ _ _ (turn_taken c.args.rest.now c.args.capacity c.fullest_place-place.result c.are_within.result c.if-are_within.false
    c.are_within.ensures c.fullest_place-place.ensures)
