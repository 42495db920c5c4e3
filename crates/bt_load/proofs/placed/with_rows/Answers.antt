use Rattle.std.proofs.Common.{rules, arith, ◌≡◌, [], ◌∷◌, ◌++◌, List, map, subst, ap, ◌∙◌}
use Rattle.std.proofs.lemmas.Grind.{common_steps}
use Rattle.bt_load.specs.inside.Sorts.{pair_at, places_of}
use Rattle.bt_load.specs.Steps.{Placed}
use Rattle.bt_keycode.proofs.offered.Occurrences.{AreLeft, all_left, all_taken, first_within, others_left, taken_is, taken_more}
use Rattle.bt_load.proofs.placed.with_rows.Goals as goal

pub loop-one-init : goal.loop-one-init
loop-one-init c = record {
  wanted = search rules;
  left = all_left (λ (p : Placed). p.1) [] c.args.rows.items c.args.placed.items c.into_iter-one-iterator.result.rest.items (search rules) c.requires;
}

pub index_mut-requires : goal.index_mut-requires
index_mut-requires c =
    let now = c.loop-one.rows.items in
    let left = subst (λ (ps : List Placed). AreLeft [] c.args.rows.items now (places_of ps)) c.in-Some.ensures.steps.0 c.loop-one.invariant.left in
    let inside = first_within [] c.args.rows.items now c.in-Some.one.1 (places_of c.next.new.self.rest.items) left in
    grind (arith, common_steps)

pub loop-one-preserved : goal.loop-one-preserved
loop-one-preserved c =
    let first = c.args.rows.items in
    let now = c.loop-one.rows.items in
    let p = c.in-Some.one in
    let rest = c.next.new.self.rest.items in
    let left : AreLeft [] first now (p.1 ∷ places_of rest) = subst (λ (ps : List Placed). AreLeft [] first now (places_of ps)) c.in-Some.ensures.steps.0 c.loop-one.invariant.left in
    let row = taken_is [] first now p.1 (places_of rest) left c.replace.result _ (c.replace.ensures.value ∙ c.index_mut.ensures.value) in
    let wanted = subst (λ (ps : List Placed). c.loop-one.pairs.items ++ map (pair_at first) ps ≡ map (pair_at first) c.args.placed.items) c.in-Some.ensures.steps.0 c.loop-one.invariant.wanted in
    record {
      wanted = ap (λ ms. ms ++ map (pair_at first) rest) c.in_ok-push.ensures.items
          ∙ taken_more (pair_at first) p rest c.loop-one.pairs.items _ (p.0, c.replace.result) wanted (ap (λ r. (p.0, r)) row);
      left = others_left [] first now p.1 (places_of rest) left _;
    }

pub returns : goal.returns
returns c = all_taken (pair_at c.args.rows.items) c.loop-one.one-iterator.rest.items _ _ (search rules) c.loop-one.invariant.wanted
