-- The rows of a tree: they are in order, and after a flush they are the rows after the messages.
use Rattle.std.proofs.Common.{◌≡◌, ℕ, zero, suc, ◌<◌, T, [], ◌∷◌, ◌++◌, refl, sym, ap, subst, ◌∙◌, arith, append-nil}
use Rattle.std.specs.FinMap.{is_sorted, nat_cmp-IsAntisymmetric, slice_cmp-IsAntisymmetric}
use Rattle.std.specs.FinMap.Entries.{below_all, same_entries}
use Rattle.std.specs.declared.option.Option.{Option}
use Rattle.std.specs.declared.option.Option.TheVariants.{Some}
use Rattle.bt_keycode.specs.Keys.{Key, key_cmp, IsPast, IsBelow, AllWithin}
use Rattle.bt_form.specs.Messages.{Meaning, Rows, Messages, rows_after}
use Rattle.bt_form.specs.declared.mode.Mode.{Mode}
use Rattle.bt_form.specs.Trees.{Shape, Tree, leaf, inner, Nodes, none, node, Siblings, children, height, height_below}
use Rattle.bt_form.specs.Flushes.{flush_at, flush_in, holds, nodes_hold, all_hold}
use Rattle.bt_form.specs.Fits.{RowsLie, Lies, SiblingsLie}
use Rattle.bt_keycode.proofs.offered.Order.{total_keys}
use Rattle.bt_form.proofs.offered.keys.Limits.{within-append, within-below, within-from}
use Rattle.bt_form.proofs.offered.rows.RowsAfter.{rows-within, rows-sorted, rows-lie, rows_after-lie, all_below}
use Rattle.bt_keycode.proofs.offered.Truths.{t_both, t_first, t_second}
use Rattle.bt_form.proofs.offered.rows.Values.{find-rows}
use Rattle.bt_form.proofs.offered.lookups.Outside.{nodes_hold-children}
use Rattle.bt_form.proofs.offered.flushes.Passes.{Kept}
use Rattle.bt_form.proofs.offered.flushes.ValuesKept.{flush_at-keeps}

below-append : {V : Type 0} (k : Key) (rs ss : Rows V) → T (below_all key_cmp k rs) → T (below_all key_cmp k ss) → T (below_all key_cmp k (rs ++ ss))
below-append k [] ss u v = v
below-append k (r ∷ rs) ss u v = t_both _ _ (t_first _ _ u) (below-append k rs ss (t_second _ _ u) v)

sorted-append : {V : Type 0} (low : Option Key) (k : Key) (high : Option Key) (rs ss : Rows V) → T (is_sorted key_cmp rs) → T (is_sorted key_cmp ss) →
    AllWithin low (Some k) rs → AllWithin (Some k) high ss → T (is_sorted key_cmp (rs ++ ss))
sorted-append low k high [] ss s t u v = t
sorted-append low k high (r ∷ rs) ss s t u v =
    t_both _ _ (below-append r.0 rs ss (t_first _ _ s) (all_below r.0 k high ss u.0.below v)) (sorted-append low k high rs ss (t_second _ _ s) t u.1 v)

rows-append : {V : Type 0} (low : Option Key) (k : Key) (high : Option Key) (rs ss : Rows V) → IsPast low k → IsBelow high k → RowsLie low (Some k) rs
    → RowsLie (Some k) high ss → RowsLie low high (rs ++ ss)
rows-append low k high rs ss l h u v =
    rows-lie low high (rs ++ ss)
    (within-append low high rs ss (within-below low k high rs h (rows-within low (Some k) rs u)) (within-from low k high ss l (rows-within (Some k) high ss v)))
    (sorted-append low k high rs ss (rows-sorted low (Some k) rs u) (rows-sorted (Some k) high ss v) (rows-within low (Some k) rs u) (rows-within (Some k) high ss v))

-- ---- height

heights : {V M : Type 0} (levels : ℕ) → ((low high : Option Key) (t : Tree V M) → Lies levels low high t → height t ≡ suc levels) →
    (low high : Option Key) (k : Key) (t : Tree V M) (ns : Nodes V M) → SiblingsLie levels low high (children (node k t ns)) → height_below (node k t ns) ≡ suc levels
heights levels each low high k t none b = omega (arith, each low high t b)
heights levels each low high k t (node j u ns) b = omega (arith, each low (Some j) t b.2, heights levels each (Some j) high j u ns b.3)

-- all leaves are as deep as the levels say
pub height-lies : {V M : Type 0} (levels : ℕ) (low high : Option Key) (t : Tree V M) → Lies levels low high t → height t ≡ suc levels
height-lies zero low high (leaf rs) l = refl
height-lies zero low high (inner ns b) l = absurd l
height-lies (suc levels) low high (leaf rs) l = absurd l
height-lies (suc levels) low high (inner none b) l = absurd l.3
height-lies (suc levels) low high (inner (node k t ns) b) l = ap suc (heights levels (height-lies levels) low high k t ns l.2)

module _ {V M : Type 0} (effect : Option V → M → Option V) where
  siblings-rows : (levels : ℕ) → ((low high : Option Key) (t : Tree V M) → Lies levels low high t → RowsLie low high (holds effect t)) →
      (low high : Option Key) (xs : Siblings V M) → SiblingsLie levels low high xs → RowsLie low high (all_hold effect xs)
  siblings-rows levels each low high [] b = tt
  siblings-rows levels each low high (x ∷ []) b = subst (RowsLie low high) (sym (append-nil (holds effect x.1))) (each low high x.1 b)
  siblings-rows levels each low high (x ∷ y ∷ ys) b =
      rows-append low y.0 high (holds effect x.1) _ b.0 b.1 (each low (Some y.0) x.1 b.2) (siblings-rows levels each (Some y.0) high (y ∷ ys) b.3)

  -- the rows of a tree are in order and between the tree's limits
  pub holds-lie : (levels : ℕ) (low high : Option Key) (t : Tree V M) → Lies levels low high t → RowsLie low high (holds effect t)
  holds-lie zero low high (leaf rs) l = l
  holds-lie zero low high (inner ns b) l = absurd l
  holds-lie (suc levels) low high (leaf rs) l = absurd l
  holds-lie (suc levels) low high (inner ns b) l =
      rows_after-lie effect low high b (nodes_hold effect ns) l.0 (subst (RowsLie low high) (sym (nodes_hold-children effect ns)) (siblings-rows levels (holds-lie levels) low high (children ns) l.2))

  pub all_hold-lie : (levels : ℕ) (low high : Option Key) (xs : Siblings V M) → SiblingsLie levels low high xs → RowsLie low high (all_hold effect xs)
  all_hold-lie levels = siblings-rows levels (holds-lie levels)

  -- siblings that have the values of a node after a packet hold the rows of the node after the packet
  pub holds-kept : (levels : ℕ) (low high : Option Key) (t : Tree V M) (p : Messages M) (xs : Siblings V M) → Lies levels low high t → AllWithin low high p → Kept effect levels low high t p xs →
      all_hold effect xs ≡ rows_after effect p (holds effect t)
  holds-kept levels low high t p xs lies within k =
      same_entries key_cmp total_keys (slice_cmp-IsAntisymmetric nat_cmp-IsAntisymmetric) _ _
      (rows-sorted low high _ (all_hold-lie levels low high xs k.lie))
      (rows-sorted low high _ (rows_after-lie effect low high p (holds effect t) within (holds-lie levels low high t lies)))
      (λ q. k.finds q ∙ sym (find-rows effect q p (holds effect t)))

module _ {V M : Type 0} (meaning : Meaning V M) where
  -- a flush at the height that the node has
  pub flush-at-levels : (mode : Mode) (s : Shape) (levels : ℕ) (low high : Option Key) (t : Tree V M) (p : Messages M) → Lies levels low high t →
      flush_in meaning mode s t p ≡ flush_at meaning mode (suc levels) s t p
  flush-at-levels mode s levels low high t p lies = ap (λ h. flush_at meaning mode h s t p) (height-lies levels low high t lies)

  pub flush-keeps : (mode : Mode) (s : Shape) → 0 < s.leaf → 0 < s.fanout → (levels : ℕ) (low high : Option Key) (t : Tree V M) (p : Messages M) → Lies levels low high t → AllWithin low high p →
      Kept meaning.effect levels low high t p (flush_in meaning mode s t p)
  flush-keeps mode s a b levels low high t p lies within =
      subst (Kept meaning.effect levels low high t p) (sym (flush-at-levels mode s levels low high t p lies)) (flush_at-keeps meaning s a b mode levels low high t p lies within)

  pub flush-holds : (mode : Mode) (s : Shape) → 0 < s.leaf → 0 < s.fanout → (levels : ℕ) (low high : Option Key) (t : Tree V M) (p : Messages M) → Lies levels low high t → AllWithin low high p →
      all_hold meaning.effect (flush_in meaning mode s t p) ≡ rows_after meaning.effect p (holds meaning.effect t)
  flush-holds mode s a b levels low high t p lies within = holds-kept meaning.effect levels low high t p _ lies within (flush-keeps mode s a b levels low high t p lies within)
