-- Siblings with their pending messages, dealt under inner nodes: they fit one level higher, and hold the same rows after the messages.
use Rattle.std.proofs.Common.{◌≡◌, ℕ, suc, ◌≤◌, length, sym, ap, subst, ◌∙◌, arith}
use Rattle.std.specs.FinMap.{find, nat_cmp-IsAntisymmetric, slice_cmp-IsAntisymmetric}
use Rattle.std.specs.FinMap.Entries.{same_entries}
use Rattle.std.specs.declared.option.Option.{Option}
use Rattle.bt_keycode.specs.Keys.{Key, key_cmp, AllWithin, IsSorted}
use Rattle.bt_keycode.proofs.offered.Order.{total_keys}
use Rattle.bt_form.specs.Messages.{Messages, load, rows_after, value_after}
use Rattle.bt_form.specs.Trees.{Shape, Siblings, nodes}
use Rattle.bt_form.specs.Flushes.{shared, grouped, all_hold}
use Rattle.bt_form.specs.Fits.{AreSized, IsRoomy, SiblingsFit, SiblingsLie}
use Rattle.bt_flush.specs.Laws.{FitAbove, HoldAllAfter}
use Rattle.bt_form.proofs.offered.rows.RowsAfter.{rows-sorted, rows_after-lie}
use Rattle.bt_form.proofs.offered.rows.Values.{find-rows}
use Rattle.bt_form.proofs.offered.flushes.Children.{ChildrenLie, below, value-below-seen}
use Rattle.bt_flush.proofs.offered.EmptyPackets.{all_pending-shared, stripped-shared}
use Rattle.bt_flush.proofs.offered.NodeSizes.{grouped-sized}
use Rattle.bt_form.proofs.offered.flushes.RowsKept.{all_hold-lie}
use Rattle.bt_form.proofs.offered.flushes.Shares.{below-shared, length-shared, shared-lie}
use Rattle.bt_form.proofs.offered.flushes.ValuesKept.{Grouped, groups}

module _ {V M : Type 0} (weigh : Key × M → ℕ) (s : Shape) (roomy : IsRoomy s) (levels : ℕ) (low high : Option Key) (xs : Siblings V M) (b : Messages M) (several : 2 ≤ length xs)
    (lie : SiblingsLie levels low high xs) (within : AllWithin low high b) (sorted : IsSorted b) where
  children_lie : ChildrenLie levels low high (shared xs b)
  children_lie = shared-lie levels low high xs b lie within sorted

  dealt : (effect : Option V → M → Option V) → Grouped effect levels s low high (shared xs b)
  dealt effect = groups effect levels s low high (shared xs b) (omega (arith, roomy.fanout)) (omega (arith, length-shared xs b, several)) children_lie

  pub grouped_fits : AreSized weigh s (nodes xs) → load weigh s.measure b ≤ s.buffer → SiblingsFit weigh s (suc levels) low high (grouped s (shared xs b))
  grouped_fits sized few =
      let g = dealt (λ old m. old) in
      record {
        lie = g.lie;
        led = g.led;
        sized = grouped-sized weigh s (shared xs b) roomy.fanout (omega (arith, length-shared xs b, several))
            (omega (arith, ap (load weigh s.measure) (all_pending-shared xs b (omega (arith, several)) sorted), few))
            (subst (λ ys. AreSized weigh s (nodes ys)) (sym (stripped-shared xs b)) sized);
      }

  pub grouped_holds : (effect : Option V → M → Option V) → all_hold effect (grouped s (shared xs b)) ≡ rows_after effect b (all_hold effect xs)
  grouped_holds effect =
      let cs = shared xs b in
      let g = dealt effect in
      same_entries key_cmp total_keys (slice_cmp-IsAntisymmetric nat_cmp-IsAntisymmetric) _ _
      (rows-sorted low high _ (all_hold-lie effect (suc levels) low high (grouped s cs) g.lie))
      (rows-sorted low high _ (rows_after-lie effect low high b (all_hold effect xs) within (all_hold-lie effect levels low high xs lie)))
      (λ q.
      g.finds q
      ∙ sym (value-below-seen effect levels q low high cs children_lie)
      ∙ ap (λ ms. value_after effect q ms (find key_cmp q (below effect cs))) (all_pending-shared xs b (omega (arith, several)) sorted)
      ∙ ap (λ rs. value_after effect q b (find key_cmp q rs)) (below-shared effect xs b)
      ∙ sym (find-rows effect q b (all_hold effect xs)))

module _ {V M : Type 0} (weigh : Key × M → ℕ) (s : Shape) (roomy : IsRoomy s) (xs : Siblings V M) (b : Messages M) (several : 2 ≤ length xs) (sorted
    : IsSorted b) (ys : Siblings V M) (is : ys ≡ grouped s (shared xs b)) where
  pub fit_above : load weigh s.measure b ≤ s.buffer → FitAbove weigh s xs b ys
  fit_above few levels low high fit within =
      subst (SiblingsFit weigh s (suc levels) low high) (sym is) (grouped_fits weigh s roomy levels low high xs b several fit.lie within sorted fit.sized few)

  pub hold_all_after : (effect : Option V → M → Option V) → HoldAllAfter (record { effect = effect; weigh = weigh }) s xs b ys
  hold_all_after effect levels low high fit within = ap (all_hold effect) is ∙ grouped_holds weigh s roomy levels low high xs b several fit.lie within sorted effect
