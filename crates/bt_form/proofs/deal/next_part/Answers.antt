use Rattle.std.proofs.Common.{◌≡◌, ◌∙◌, ◌-◌, length, ap, rules, arith}
use Rattle.std.proofs.lemmas.Grind.{common_steps}
use Rattle.std.specs.Vec.Iter.{into_iter_items}
use Rattle.bt_form.proofs.offered.code.DealLoop.{dropped_from_none, item_moved, item_passed, taken_from_none}
use Rattle.bt_form.proofs.deal.next_part.Goals as goal
use Rattle.bt_form.proofs.deal.next_part.Goals.{in-Some, in_default}

pub loop-preserved : goal.loop-preserved
loop-preserved g c = elim c.match-next.branch [
  | in-Some w ↦ record {
    part = item_moved c.args.size c.loop.counter c.loop.part.items c.match-next.part.items _ _ _ w.in-Some.item (omega arith)
        w.in-Some.ensures.items (ap (λ v. v.items) w.part-is ∙ w.push_reserved.ensures.items) c.loop.invariant.part;
    rest = item_passed c.args.size c.loop.counter _ _ _ w.in-Some.item (omega arith) w.in-Some.ensures.items c.loop.invariant.rest;
    len = grind (arith, common_steps);
    room = grind (arith, common_steps);
  }
  | in_default w ↦
      let before : length (into_iter_items c.loop.rest) ≡ 0 = search rules in
      let after : length (into_iter_items c.next.new.self) ≡ 0 = search rules in
      record {
        part = rw w.part-is (taken_from_none (c.args.size - c.loop.counter) _ c.loop.part.items _ _ _ before after c.loop.invariant.part);
        rest = dropped_from_none (c.args.size - c.loop.counter) _ _ _ _ before after c.loop.invariant.rest;
        len = grind (arith, common_steps);
        room = grind (arith, common_steps);
      }
]

pub push_reserved-requires : goal.push_reserved-requires
push_reserved-requires g c = omega (arith, c.loop.invariant.len, c.loop.invariant.room, c.loop-test.true)
