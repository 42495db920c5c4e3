use Rattle.std.proofs.Common.{◌∙◌, map, ap, sym, arith}
use Rattle.std.proofs.lemmas.Grind.{common_steps}
use Rattle.std.proofs.lemmas.List.{map-append}
use Rattle.bt_form.specs.Deals.{even}
use Rattle.bt_form.proofs.offered.code.DealLoop.{all_dealt, none_dealt, part_dealt}
use Rattle.bt_form.proofs.offered.deals.PartSizes.{deal-one}
use Rattle.bt_form.proofs.deal.deal.Goals as goal

pub returns-then-count-most : goal.returns-then-count-most
returns-then-count-most g c = ap (map (λ part. part.items)) c.in_ok-vec.ensures.items ∙ sym (deal-one c.args.most c.args.items.items (omega arith) (omega arith))

pub loop-place-init : goal.loop-place-init
loop-place-init g c = record {
  dealt = none_dealt c.args.most c.len-count.result c.div_ceil-many.result _ _ c.args.items.items c.requires (omega arith) (omega arith)
      c.div_ceil-many.ensures (ap (map (λ part. part.items)) c.in_ok-parts.ensures.items) c.into_iter-rest.ensures.rest;
  len = grind (arith, common_steps);
  room = grind (arith, common_steps);
}

pub push_reserved-requires : goal.push_reserved-requires
push_reserved-requires g c = grind (arith, common_steps)

pub loop-place-preserved : goal.loop-place-preserved
loop-place-preserved g c = record {
  dealt = part_dealt c.loop-place.place c.size_at-size.result (even c.len-count.result c.div_ceil-many.result) _ _ _ _ _ _ c.size_at-size.ensures
      c.in_ok-next_part.ensures.part c.in_ok-next_part.ensures.rest
      (ap (map (λ part. part.items)) c.push_reserved.ensures.items ∙ map-append _ _ _) c.loop-place.invariant.dealt;
  len = grind (arith, common_steps);
  room = grind (arith, common_steps);
}

pub returns : goal.returns
returns g c = all_dealt c.args.most c.len-count.result c.div_ceil-many.result c.loop-place.place _ _ _ c.requires (omega arith) c.div_ceil-many.ensures (omega arith) c.loop-place.invariant.dealt
