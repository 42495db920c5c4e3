use Rattle.std.proofs.Common.{◌≡◌, ◌∙◌, ap, false, length, subst, sym}
use Rattle.std.proofs.lemmas.List.{length-replicate}
use Rattle.bt_form.specs.Plans.{planned}
use Rattle.bt_form.specs.inside.Marks.{set_all}
use Rattle.bt_form.proofs.offered.plans.Marks.{marks-words}
use Rattle.bt_flush.proofs.lemmas.plans.PlanSizes.{AllBelow, below-planned}
use Rattle.bt_flush.proofs.opening.planned_marks.Goals as goal

pub loop-place-init : goal.loop-place-init
loop-place-init c =
    let loads = c.args.loads.now in
    let plan = planned loads c.args.capacity in
    let left : c.into_iter-place-iterator.result ≡ plan = c.into_iter-place-iterator.ensures.into_iter_gives.0 ∙ c.plan-place-items.ensures.places in
    record {
      long = ap length c.equal_marks-marks.ensures ∙ length-replicate (length loads) false;
      below = subst (AllBelow (length loads)) (sym left) (below-planned loads c.args.capacity);
      marks = ap (λ ps. set_all ps c.equal_marks-marks.result.items) left ∙ ap (set_all plan) c.equal_marks-marks.ensures ∙ marks-words plan loads;
    }
