use Rattle.std.proofs.Common.{◌∙◌, ◌∷◌, ◌++◌, [], ap, append_assoc, arith, length, map, sym}
use Rattle.bt_read.specs.inside.ValuesSoFar.{option_of}
use Rattle.bt_read.proofs.joint_lookup.into_values.Goals as goal

pub push_reserved-requires : goal.push_reserved-requires
push_reserved-requires g c = omega (arith, ap length c.in-Some.ensures.steps.0, c.loop-value.invariant.room)

pub loop-value-preserved : goal.loop-value-preserved
loop-value-preserved g c =
    let steps = c.in-Some.ensures.steps.0 in
    let copies = c.loop-value.copies.items in
    record {
      copies = c.loop-value.invariant.copies ∙ ap (λ vs. copies ++ map option_of vs) steps
          ∙ sym (append_assoc copies (option_of c.in-Some.value ∷ []) (map option_of c.next.new.self.rest.items))
          ∙ sym (ap (λ vs. vs ++ map option_of c.next.new.self.rest.items) (c.push_reserved.ensures.items ∙ ap (λ v. copies ++ v ∷ []) c.in_ok-into_value.ensures));
      room = omega (arith, ap length steps, c.loop-value.invariant.room, c.push_reserved.ensures.len, c.push_reserved.ensures.capacity);
    }
