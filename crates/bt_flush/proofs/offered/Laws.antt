-- The promises about a node and a packet, about flushed children, and about packed rows, from their parts.
use Rattle.std.proofs.Common.{◌≡◌, ℕ, suc, T, List, [], ◌∷◌, refl, sym, ap, subst, ◌∙◌, arith, le_refl}
use Rattle.std.specs.FinMap.{is_sorted}
use Rattle.std.specs.declared.option.Option.{Option}
use Rattle.std.specs.declared.option.Option.TheVariants.{None, Some}
use Rattle.bt_keycode.specs.Keys.{Key, key_cmp, AllWithin}
use Rattle.bt_form.specs.Messages.{Rows, Meaning, Messages}
use Rattle.bt_form.specs.Plans.{total}
use Rattle.bt_form.specs.declared.mode.Mode.{Mode}
use Rattle.bt_form.specs.Trees.{Shape, Tree, Siblings}
use Rattle.bt_form.specs.Flushes.{loads, pending_load, flushed, flush_in, absorb, leaves, all_hold}
use Rattle.bt_form.specs.Fits.{SiblingsLie, SiblingsFit, AreHigh, IsRoomy}
use Rattle.bt_flush.specs.Laws.{FlushesInTurn, ChosenArePlanned, FitThere, KeepHeight, StayWithoutPacket, HoldRowsAfter, ComeByOneRule}
use Rattle.bt_form.proofs.offered.plans.OnePass.{opened_items-planned}
use Rattle.bt_flush.proofs.lemmas.plans.Capacity.{after_turns-on, after_turns-still}
use Rattle.bt_form.proofs.offered.rows.RowsAfter.{rows-lie}
use Rattle.bt_form.proofs.offered.flushes.Passes.{flushed-light}
use Rattle.bt_form.proofs.offered.flushes.Groups.{leaves-led, leaves-lie}
use Rattle.bt_form.proofs.offered.flushes.RowsKept.{height-lies, flush-keeps, flush-holds}
use Rattle.bt_flush.proofs.offered.NodeSizes.{flush-sized, leaves-sized}
use Rattle.bt_flush.proofs.offered.EmptyPackets.{absorb-still}
use Rattle.bt_flush.proofs.offered.Recursion.{flush_recurs}

pub flushes_in_turn : {V M : Type 0} (weigh : Key × M → ℕ) → FlushesInTurn V weigh
flushes_in_turn weigh = record {
  within = λ s f cs few. after_turns-still (pending_load weigh s) (flushed f) (flushed-light weigh s f) s.buffer (total (loads weigh s cs)) cs few;
  over = λ s f cs many. after_turns-on (pending_load weigh s) (flushed f) (flushed-light weigh s f) s.buffer (total (loads weigh s cs)) cs many (le_refl (total (loads weigh s cs)));
}

pub chosen_are_planned : {V M : Type 0} (weigh : Key × M → ℕ) → ChosenArePlanned V weigh
chosen_are_planned weigh s f cs = opened_items-planned (pending_load weigh s) (flushed f) (flushed-light weigh s f) s.buffer (total (loads weigh s cs)) cs (le_refl (total (loads weigh s cs)))

pub high-siblings : {V M : Type 0} (levels : ℕ) (low high : Option Key) (xs : Siblings V M) → SiblingsLie levels low high xs → AreHigh (suc levels) xs
high-siblings levels low high [] b = tt
high-siblings levels low high (x ∷ []) b = (height-lies levels low high x.1 b, tt)
high-siblings levels low high (x ∷ y ∷ ys) b = (height-lies levels low (Some y.0) x.1 b.2, high-siblings levels (Some y.0) high (y ∷ ys) b.3)

-- without limits any packet is within them
pub anywhere : {X : Type 0} (xs : List (Key × X)) → AllWithin None None xs
anywhere [] = tt
anywhere (x ∷ xs) = (record { from = refl; below = refl }, anywhere xs)

module _ {V M : Type 0} (meaning : Meaning V M) (mode : Mode) (s : Shape) where
  module _ (roomy : IsRoomy s) (t : Tree V M) (p : Messages M) (xs : Siblings V M) (is : xs ≡ flush_in meaning mode s t p) where
    pub hold_rows_after : HoldRowsAfter meaning s t p xs
    hold_rows_after levels low high fits within =
        ap (λ ys. all_hold meaning.effect ys) is ∙ flush-holds meaning mode s (omega (arith, roomy.leaf)) (omega (arith, roomy.fanout)) levels low high t p fits.lies within

    pub fit_there : FitThere meaning.weigh s t p xs
    fit_there levels low high fits within =
        let k = flush-keeps meaning mode s (omega (arith, roomy.leaf)) (omega (arith, roomy.fanout)) levels low high t p fits.lies within in
        subst (SiblingsFit meaning.weigh s levels low high) (sym is) (record {
          lie = k.lie;
          led = k.led;
          sized = flush-sized meaning s mode (omega (arith, roomy.leaf)) roomy.fanout levels low high t p fits.lies within fits.sized;
        })

    pub keep_height : KeepHeight meaning.weigh s t p xs
    keep_height levels low high fits within =
        subst (λ h. AreHigh h xs) (sym (height-lies levels low high t fits.lies)) (high-siblings levels low high xs (fit_there levels low high fits within).lie)

  pub come_by_one_rule : (t : Tree V M) (p : Messages M) (xs : Siblings V M) → xs ≡ flush_in meaning mode s t p → ComeByOneRule meaning s t p mode xs
  come_by_one_rule t p xs is ns buffer inside = is ∙ ap (λ u. flush_in meaning mode s u p) inside ∙ flush_recurs meaning mode s ns buffer p

pub stay_without_packet : {V M : Type 0} (meaning : Meaning V M) (s : Shape) (roomy : IsRoomy s) (t : Tree V M) (p : Messages M) (xs : Siblings V M) → xs ≡ absorb meaning s t p →
    StayWithoutPacket meaning.weigh s t p xs
stay_without_packet meaning s roomy t p xs is none levels low high fits within = is ∙ ap (absorb meaning s t) none ∙ absorb-still meaning s roomy levels low high t fits

-- rows in rising order, dealt into leaves
pub leaves-fit : {V M : Type 0} (weigh : Key × M → ℕ) (s : Shape) (rs : Rows V) → IsRoomy s → T (is_sorted key_cmp rs) → SiblingsFit weigh s 0 None None (leaves s rs)
leaves-fit {M = M} weigh s rs roomy sorted = record {
  lie = leaves-lie M s None None rs (omega (arith, roomy.leaf)) (rows-lie None None rs (anywhere rs) sorted);
  led = leaves-led M s rs (omega (arith, roomy.leaf));
  sized = leaves-sized weigh s rs (omega (arith, roomy.leaf));
}
