use Rattle.std.proofs.Common.{◌≡◌, ◌∙◌, ap, arith, sym, le_refl, rules}
use Rattle.bt_form.specs.Plans.{planned, total}
use Rattle.bt_form.proofs.offered.plans.RenewedChoice.{renewed-planned}
use Rattle.bt_flush.proofs.lemmas.plans.PlanSizes.{room-left}
use Rattle.bt_flush.proofs.planning.plan.Goals as goal

pub push-requires : goal.push-requires
push-requires c =
    let capacity = c.args.capacity in
    let next = ap (λ ns. planned ns capacity) (sym c.as_mut_slice.ensures.value) ∙ c.in-Some.ensures.found in
    let rest = planned c.next_planned.new.rest capacity in
    (omega arith, room-left c.loop-place.places.items c.loop-place.rest.items rest c.args.loads.now capacity c.in-Some.place c.loop-place.invariant.so_far next c.requires)

pub returns-clause-renewed : goal.returns-clause-renewed
returns-clause-renewed c =
    let is : c.loop-place.places.items ≡ planned c.args.loads.now c.args.capacity = search rules in
    is ∙ sym (renewed-planned c.args.capacity (total c.args.loads.now) c.args.loads.now (le_refl (total c.args.loads.now)))
