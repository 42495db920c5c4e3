use Rattle.std.proofs.Common.{◌≡◌, ◌∙◌, ◌-◌, false, true, Some, ap, arith, fold, length, refl, reverse, subst, sym, take}
use Rattle.std.specs.Option.{option_copied}
use Rattle.bt_keycode.specs.Keys.{is_before_lower, is_before_upper}
use Rattle.bt_message.specs.Effects.{effect_of}
use Rattle.bt_form.specs.Flushes.{holds}
use Rattle.bt_form.specs.Messages.{between}
use Rattle.bt_view.proofs.LastRows.{child_below, cut_at, earlier_left, same_key_at}
use Rattle.bt_view.proofs.last_rows.+visit_pieces.Goals as goal
use Rattle.bt_view.proofs.last_rows.+visit_pieces.Goals.{then-is_before+in_ok-left, else-is_before}

pub visit_pieces-requires : goal.visit_pieces-requires
visit_pieces-requires g t c κs within =
    (omega (arith, child_below c.args.node.now c.child-child.result c.loop-left.place c.child-child.ensures, c.decreases), (within.0, (within.1.0, (within.1.1, c.requires))))

pub visit_pieces-requires-2 : goal.visit_pieces-requires-2
visit_pieces-requires-2 g t c κs within =
    (omega (arith, child_below c.args.node.now c.child.result c.loop-left.place c.child.ensures, c.decreases), (within.0, (within.1.0, (within.1.1, c.requires))))

pub loop-left-preserved : goal.loop-left-preserved
loop-left-preserved g t c = elim c.if-is_before.branch [
  | then-is_before+in_ok-left w ↦
      let visited = g.S.Visitor.visited in
      let effect = effect_of g.V.Merge.terms.merged in
      let rows = holds effect c.args.tree.now in
      let low = option_copied c.args.low in
      let high = option_copied c.loop-left.high in
      let pivot = c.pivot-pivot.result.now in
      let here : option_copied c.if-is_before.high ≡ Some pivot = ap option_copied w.high-is in
      let after : is_before_lower low pivot ≡ false = subst (λ k. is_before_lower low k ≡ false)
      (same_key_at _ c.pivot.result.now pivot c.pivot.ensures c.pivot-pivot.ensures) (c.if-is_after.ensures refl) in
      let before : is_before_upper high pivot ≡ true = sym w.if-is_before.ensures in
      let step = earlier_left visited c.loop-left.visitor w.visit_pieces.new.visitor c.loop-left.left w.in_ok-left.left
      (between low high rows) (between low (Some pivot) rows) (between (Some pivot) high rows)
      (cut_at effect c.args.tree.now c.requires low high pivot after before) w.in_ok-left.ensures.shown w.in_ok-left.ensures.left in
      record {
        shown = ap (λ s. fold visited s (take c.if-is_before.left (reverse (between low (option_copied c.if-is_before.high) rows)))) w.visitor-is
            ∙ ap (λ n. fold visited w.visit_pieces.new.visitor (take n (reverse (between low (option_copied c.if-is_before.high) rows)))) w.left-is
            ∙ ap (λ h. fold visited w.visit_pieces.new.visitor (take w.in_ok-left.left (reverse (between low h rows)))) here
            ∙ step.0 ∙ c.loop-left.invariant.shown;
        room = ap (λ n. n - length (between low (option_copied c.if-is_before.high) rows)) w.left-is
            ∙ ap (λ h. w.in_ok-left.left - length (between low h rows)) here
            ∙ step.1 ∙ c.loop-left.invariant.room;
        within = omega (arith, c.loop-left.invariant.within);
      }
  | else-is_before w ↦
      let visited = g.S.Visitor.visited in
      let effect = effect_of g.V.Merge.terms.merged in
      let rows = holds effect c.args.tree.now in
      let low = option_copied c.args.low in
      record {
        shown = ap (λ s. fold visited s (take c.if-is_before.left (reverse (between low (option_copied c.if-is_before.high) rows)))) w.visitor-is
            ∙ ap (λ n. fold visited c.loop-left.visitor (take n (reverse (between low (option_copied c.if-is_before.high) rows)))) w.left-is
            ∙ ap (λ h. fold visited c.loop-left.visitor (take c.loop-left.left (reverse (between low (option_copied h) rows)))) w.high-is
            ∙ c.loop-left.invariant.shown;
        room = ap (λ n. n - length (between low (option_copied c.if-is_before.high) rows)) w.left-is
            ∙ ap (λ h. c.loop-left.left - length (between low (option_copied h) rows)) w.high-is
            ∙ c.loop-left.invariant.room;
        within = omega (arith, c.loop-left.invariant.within);
      }
]
