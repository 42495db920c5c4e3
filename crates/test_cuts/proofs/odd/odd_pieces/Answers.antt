use Rattle.std.proofs.Common.{◌≡◌, ◌<◌, ◌+◌, ◌∷◌, ◌++◌, ◌∙◌, [], None, ap, arith, drop, length, map, rules, subst, sym}
use Rattle.std.proofs.lemmas.List.{drop_all, drop_more, map-append}
use Rattle.std.specs.FinMap.{find}
use Rattle.std.specs.List.{AllByRecursion as Each}
use Rattle.bt_gather.specs.Views.{pieces_of}
use Rattle.bt_message.specs.Meanings.{meaning_of}
use Rattle.bt_plan.specs.Pieces.{node_place_cmp}
use Rattle.bt_plan.specs.Views.{node_place}
use Rattle.test_cuts.specs.Turns.{AreRun}
use Rattle.test_cuts.proofs.Turning.{run-more, run-odd}
use Rattle.test_cuts.proofs.odd.odd_pieces.Goals as goal

pub loop-number-preserved : goal.loop-number-preserved
loop-number-preserved g c =
    let meaning = meaning_of g.V.Merge.terms in
    let left = map node_place c.in_ok-pieces.left.items in
    let place = c.child_of_root-in-loop-number.result in
    let grew : c.push.new.self.items ≡ c.loop-number.pieces.items ++ (place, c.in_ok-leaf.leaf) ∷ [] = search rules in
    subst (λ ps. AreRun meaning c.args.shape c.args.jobs.items ps left)
    (sym (ap pieces_of grew ∙ map-append (λ p. (node_place p.0, p.1)) c.loop-number.pieces.items ((place, c.in_ok-leaf.leaf) ∷ [])))
    (run-more meaning c.args.shape c.args.jobs.items (pieces_of c.loop-number.pieces.items) ((node_place place, c.in_ok-leaf.leaf) ∷ []) left c.loop-number.invariant)

pub loop-place-preserved : goal.loop-place-preserved
loop-place-preserved g c =
    let places = c.deref-place-items.result.now in
    let at = c.loop-place.place-index in
    let place = c.place-item.result in
    let within : at < length places = omega arith in
    let next = ap (map node_place) (drop_more places at place within) ∙ ap (λ p. node_place p ∷ map node_place (drop (at + 1) places)) (sym c.place-item.is) in
    let free : find node_place_cmp (node_place place) (pieces_of c.loop-number.pieces.items) ≡ None = search rules in
    λ others. c.loop-place.invariant (subst (Each (λ p. find node_place_cmp p (pieces_of c.loop-number.pieces.items) ≡ None)) (sym next) (free, others))

pub returns : goal.returns
returns g c =
    let pieces = pieces_of c.loop-number.pieces.items in
    let places = c.deref-place-items.result.now in
    let none = drop_all c.loop-place.place-index places (omega arith) in
    let free = c.loop-place.invariant (subst (λ ps. Each (λ p. find node_place_cmp p pieces ≡ None) (map node_place ps)) (sym none) tt) in
    run-odd (meaning_of g.V.Merge.terms) c.args.shape c.args.jobs.items pieces (map node_place c.in_ok-pieces.left.items) c.loop-number.invariant
    (subst (λ ps. Each (λ p. find node_place_cmp p pieces ≡ None) (map node_place ps)) c.deref-place-items.ensures.value free)
