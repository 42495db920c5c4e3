use Rattle.std.proofs.Common.{◌≡◌, ◌∙◌, ◌++◌, ap, append-nil, arith, rules, length, length-append, Some, Ok, [], ◌∷◌}
use Rattle.std.proofs.lemmas.List.{nil_from_length}
use Rattle.bt_gang.specs.inside.Places.{ok_slots}
use Rattle.bt_gang.proofs.Placing.{step_ok, none_at}
use Rattle.bt_gang.proofs.slots.values.Goals as goal

pub unreachable-requires : goal.unreachable-requires
unreachable-requires g c = c.requires.full _ (none_at _ c.loop-slot.done.items _ _ _ c.loop-slot.invariant.so_far c.in-Some.ensures.steps.0 c.in-None-slot.is)

pub loop-slot-preserved : goal.loop-slot-preserved
loop-slot-preserved g c =
    let e : c.in-Some.slot ≡ Some (Ok c.in-Some-Ok.value) = cc in
    record {
      so_far = step_ok _ c.loop-slot.done.items _ c.in-Some-Ok.value _ _ _ c.loop-slot.invariant.so_far c.in-Some.ensures.steps.0 e c.push_reserved.ensures.items;
      number = let l = ap length c.push_reserved.ensures.items in omega (arith, length-append c.loop-slot.done.items (c.in-Some-Ok.value ∷ []));
      count = search rules;
      room = let s = c.in-Some.ensures.steps.1 in search rules;
    }

pub returns-clause-ok : goal.returns-clause-ok
returns-clause-ok g c =
    let left = c.loop-slot.slot-iterator.rest in
    let none : left.items ≡ [] = nil_from_length left.items (omega (arith, left.ok.0, c.in-None.ensures.steps.0)) in
    let filled = ok_slots c.loop-slot.done.items in
    c.loop-slot.invariant.so_far ∙ (ap (λ l. filled ++ l) none ∙ append-nil filled)
