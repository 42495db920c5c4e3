use Rattle.std.proofs.Common.{arith, ◌≡◌, ◌∙◌, ◌+◌, [], get_or, sym, ap, subst, true≢false, Some}
use Rattle.std.proofs.lemmas.List.{get_or_default}
use Rattle.bt_load.specs.inside.Sorts.{IsFirstRepeat, Repeats, at}
use Rattle.bt_load.specs.Steps.{Placed}
use Rattle.bt_load.proofs.Repeats.{one_more_repeats, one_more_stays}
use Rattle.bt_load.proofs.placed.first_repeat.Goals.{then-repeats, else-repeats}
use Rattle.bt_load.proofs.placed.first_repeat.Goals as goal

pub loop-next-preserved : goal.loop-next-preserved
loop-next-preserved c =
    let placed = c.args.placed.now in
    let next = c.loop-next.next in
    elim c.if-repeats.branch [
      | then-repeats w ↦
          let repeat : Repeats placed next = record { some = omega arith; within = omega arith; same = sym c.repeats.ensures ∙ w.if-repeats.true } in
          let here = get_or placed next w.index-placed-next.result in
          let is : here.1 ≡ (at placed next).1 = ap (λ (p : Placed). p.1) (get_or_default placed next w.index-placed-next.result (([], 0)) (omega arith)) in
          subst (IsFirstRepeat placed (next + 1)) (sym (w.first-is ∙ ap Some w.lower.ensures))
          (one_more_repeats placed next c.loop-next.first here.1 repeat is c.loop-next.invariant)
      | else-repeats w ↦
          let not : Repeats placed next → ⊥ = λ again. true≢false (sym again.same ∙ sym c.repeats.ensures ∙ w.if-repeats.false) in
          subst (IsFirstRepeat placed (next + 1)) (sym w.first-is) (one_more_stays placed next c.loop-next.first not c.loop-next.invariant)
    ]
