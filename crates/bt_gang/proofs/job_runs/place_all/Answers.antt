use Rattle.std.proofs.Common.{◌≡◌, ◌∙◌, ◌++◌, [], map, ap, sym, append-nil, rules, arith}
use Rattle.std.proofs.lemmas.List.{nil_from_length}
use Rattle.bt_gang.specs.inside.Places.{answers_in, numbers_in, puts}
use Rattle.bt_value.specs.Lists.{concatenation}
use Rattle.bt_gang.proofs.Filling.{placed_more, below_one, below_more, listed_more}
use Rattle.bt_gang.proofs.job_runs.place_all.Goals as goal

pub place_some-requires : goal.place_some-requires
place_some-requires g c = below_one _ c.in-Some.out _ _ c.in-Some.ensures.steps.0 c.loop-out.invariant.numbers

pub loop-out-preserved : goal.loop-out-preserved
loop-out-preserved g c =
    let i = c.loop-out.invariant in
    let s = c.in-Some.ensures.steps in
    record {
      slots = placed_more _ _ _ c.in-Some.out _ _ s.0 c.place_some.ensures.slots i.slots;
      numbers = below_more _ _ c.in-Some.out _ _ s.0 c.place_some.ensures.slots i.numbers;
      taken = listed_more _ _ c.place_some.result _ c.in-Some.out _ _ s.0 c.push_reserved.ensures.items c.place_some.ensures.numbers i.taken;
      count = search rules;
      room = search rules;
    }

pub returns-clause-slots : goal.returns-clause-slots
returns-clause-slots g c =
    let left = c.loop-out.out-iterator.rest in
    let none : left.items ≡ [] = nil_from_length left.items (omega (arith, left.ok.0, c.in-None.ensures.steps.0)) in
    sym (ap (λ l. puts c.loop-out.slots.items (concatenation (map answers_in l))) none) ∙ c.loop-out.invariant.slots

pub returns-clause-numbers : goal.returns-clause-numbers
returns-clause-numbers g c =
    let left = c.loop-out.out-iterator.rest in
    let none : left.items ≡ [] = nil_from_length left.items (omega (arith, left.ok.0, c.in-None.ensures.steps.0)) in
    let so_far = c.loop-out.taken.items in
    sym (append-nil so_far) ∙ (sym (ap (λ l. so_far ++ map numbers_in l) none) ∙ c.loop-out.invariant.taken)
