use Rattle.std.proofs.Common.{◌≡◌, ◌∙◌, ◌∷◌, ◌++◌, [], ap, append_assoc, length, map, subst, sym, rules, arith}
use Rattle.std.proofs.lemmas.Grind.{common_steps}
use Rattle.bt_form.proofs.offered.code.RowPass.{AllSorted, sorted_deal}
use Rattle.bt_form.proofs.rows.Rows.deal.Goals as goal

pub loop-rows-init : goal.loop-rows-init
loop-rows-init g c =
    let rest : c.into_iter-rows-iterator.result.rest.items ≡ c.in_ok-dealt.dealt.items = search rules in
    let all = ap (map (λ part. part.items)) rest ∙ c.in_ok-dealt.ensures in
    record {
      dealt = ap (λ parts. parts ++ map (λ part. part.items) c.into_iter-rows-iterator.result.rest.items) c.in_ok-parts.ensures.items ∙ rw (← c.self.view_is) all;
      sorted = subst AllSorted (sym all) (sorted_deal c.args.most c.self.inside.rows.items c.self.invariant);
      room = grind (arith, common_steps);
    }

pub push_reserved-requires : goal.push_reserved-requires
push_reserved-requires g c = omega (arith, ap length c.in-Some.ensures.steps.0, c.loop-rows.invariant.room)

pub loop-rows-preserved : goal.loop-rows-preserved
loop-rows-preserved g c =
    let steps = c.in-Some.ensures.steps.0 in
    record {
      dealt = ap (λ parts. parts ++ map (λ part. part.items) c.next.new.self.rest.items) c.push_reserved.ensures.items
          ∙ append_assoc c.loop-rows.parts.items (c.in-Some.rows.items ∷ []) _
          ∙ ap (λ parts. c.loop-rows.parts.items ++ map (λ part. part.items) parts) (sym steps) ∙ c.loop-rows.invariant.dealt;
      sorted = (subst (λ parts. AllSorted (map (λ part. part.items) parts)) steps c.loop-rows.invariant.sorted).1;
      room = omega (arith, ap length steps, c.loop-rows.invariant.room, c.push_reserved.ensures.len, c.push_reserved.ensures.capacity);
    }
