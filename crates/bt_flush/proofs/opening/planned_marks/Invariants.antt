use Rattle.std.proofs.Common.{◌≡◌, length}
use Rattle.bt_form.specs.Marks.{flush_marks}
use Rattle.bt_form.specs.declared.mode.Mode.TheVariants.{Absorb}
use Rattle.bt_form.specs.inside.Marks.{set_all}
use Rattle.bt_flush.proofs.lemmas.plans.PlanSizes.{AllBelow}
use Rattle.bt_flush.proofs.opening.planned_marks.Given as goal

-- what is left to mark
abbrev pub invariant-loop-place : goal.invariant-loop-place
invariant-loop-place l = record {
  long : length l.marks.items ≡ length l.loads;
  below : AllBelow (length l.loads) l.place-iterator;
  marks : set_all l.place-iterator l.marks.items ≡ flush_marks Absorb l.capacity l.loads;
}
