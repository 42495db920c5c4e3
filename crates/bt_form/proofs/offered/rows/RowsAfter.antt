-- Rows stay in order and within limits when messages change them.
use Rattle.std.proofs.Common.{◌≡◌, true, T, [], ◌∷◌}
use Rattle.std.specs.FinMap.{find, put, is_sorted}
use Rattle.std.specs.FinMap.Entries.{below_all, is_sorted-put, is_sorted-where_key, by_order}
use Rattle.std.specs.declared.cmp.Ordering.TheVariants.{Less, Equal, Greater}
use Rattle.std.specs.declared.option.Option.{Option}
use Rattle.std.specs.declared.option.Option.TheVariants.{None, Some}
use Rattle.bt_keycode.specs.Keys.{Key, key_cmp, is_before, Within, AllWithin}
use Rattle.bt_form.specs.Messages.{Rows, Messages, with_value, rows_after}
use Rattle.bt_form.specs.Fits.{RowsLie}
use Rattle.bt_keycode.proofs.offered.Order.{total_keys, before_later, not_after, not_before_itself, below-below, past-from}
use Rattle.bt_form.proofs.offered.keys.Limits.{within-from, within-where}
use Rattle.bt_keycode.proofs.offered.Truths.{t_both, t_first, t_second, t_true, true_t}

pub rows-within : {V : Type 0} (low high : Option Key) (rs : Rows V) → RowsLie low high rs → AllWithin low high rs
rows-within low high [] b = tt
rows-within low high (r ∷ []) b = (b, tt)
rows-within low high (r ∷ s ∷ rs) b =
    (record { from = b.2.from; below = below-below high r.0 s.0 b.2.below b.1 }, within-from low s.0 high (s ∷ rs) b.0 (rows-within (Some s.0) high (s ∷ rs) b.3))

pub all_below : {V : Type 0} (k low : Key) (high : Option Key) (rs : Rows V) → is_before k low ≡ true → AllWithin (Some low) high rs → T (below_all key_cmp k rs)
all_below k low high [] l w = tt
all_below k low high (r ∷ rs) l w = t_both _ _ (t_true _ (before_later k low r.0 l w.0.from)) (all_below k low high rs l w.1)

pub rows-sorted : {V : Type 0} (low high : Option Key) (rs : Rows V) → RowsLie low high rs → T (is_sorted key_cmp rs)
rows-sorted low high [] b = tt
rows-sorted low high (r ∷ []) b = tt
rows-sorted low high (r ∷ s ∷ rs) b =
    t_both _ _ (all_below r.0 s.0 high (s ∷ rs) b.2.below (rows-within (Some s.0) high (s ∷ rs) b.3)) (rows-sorted (Some s.0) high (s ∷ rs) b.3)

raised : {V : Type 0} (k : Key) (low high : Option Key) (rs : Rows V) → T (below_all key_cmp k rs) → AllWithin low high rs → AllWithin (Some k) high rs
raised k low high [] b w = tt
raised k low high (r ∷ rs) b w = (record { from = not_after k r.0 (true_t _ (t_first _ _ b)); below = w.0.below }, raised k low high rs (t_second _ _ b) w.1)

pub rows-lie : {V : Type 0} (low high : Option Key) (rs : Rows V) → AllWithin low high rs → T (is_sorted key_cmp rs) → RowsLie low high rs
rows-lie low high [] w o = tt
rows-lie low high (r ∷ []) w o = w.0
rows-lie low high (r ∷ s ∷ rs) w o =
    let above : is_before r.0 s.0 ≡ true = true_t _ (t_first _ _ (t_first _ _ o)) in
    let rest = t_second _ _ o in (
      past-from low r.0 s.0 above w.0.from,
      w.1.0.below,
      record { from = w.0.from; below = above },
      rows-lie (Some s.0) high (s ∷ rs) (record { from = not_before_itself s.0; below = w.1.0.below }, raised s.0 low high rs (t_first _ _ rest) w.1.1) rest,
    )

module _ {V M : Type 0} (effect : Option V → M → Option V) where
  within-put : (low high : Option Key) (k : Key) (v : V) (rs : Rows V) → Within low high k → AllWithin low high rs → AllWithin low high (put key_cmp k v rs)
  within-put low high k v [] i w = (i, tt)
  within-put low high k v (r ∷ rs) i w = elim (key_cmp k r.0) as (λ o. AllWithin low high (by_order o ((k, v) ∷ r ∷ rs) ((r.0, v) ∷ rs) (r ∷ put key_cmp k v rs))) [
    | Less ↦ (i, w)
    | Equal ↦ w
    | Greater ↦ (w.0, within-put low high k v rs i w.1)
  ]

  within-with_value : (low high : Option Key) (k : Key) (o : Option V) (rs : Rows V) → Within low high k → AllWithin low high rs → AllWithin low high (with_value k o rs)
  within-with_value low high k None rs i w = within-where low high _ rs w
  within-with_value low high k (Some v) rs i w = within-put low high k v rs i w

  sorted-with_value : (k : Key) (o : Option V) (rs : Rows V) → T (is_sorted key_cmp rs) → T (is_sorted key_cmp (with_value k o rs))
  sorted-with_value k None rs s = is_sorted-where_key key_cmp _ rs s
  sorted-with_value k (Some v) rs s = is_sorted-put key_cmp total_keys k v rs s

  pub rows_after-within : (low high : Option Key) (ms : Messages M) (rs : Rows V) → AllWithin low high ms → AllWithin low high rs → AllWithin low high (rows_after effect ms rs)
  rows_after-within low high [] rs i w = w
  rows_after-within low high (m ∷ ms) rs i w = rows_after-within low high ms _ i.1 (within-with_value low high m.0 (effect (find key_cmp m.0 rs) m.1) rs i.0 w)

  pub rows_after-sorted : (ms : Messages M) (rs : Rows V) → T (is_sorted key_cmp rs) → T (is_sorted key_cmp (rows_after effect ms rs))
  rows_after-sorted [] rs s = s
  rows_after-sorted (m ∷ ms) rs s = rows_after-sorted ms _ (sorted-with_value m.0 (effect (find key_cmp m.0 rs) m.1) rs s)

  pub rows_after-lie : (low high : Option Key) (ms : Messages M) (rs : Rows V) → AllWithin low high ms → RowsLie low high rs → RowsLie low high (rows_after effect ms rs)
  rows_after-lie low high ms rs i b = rows-lie low high _ (rows_after-within low high ms rs i (rows-within low high rs b)) (rows_after-sorted ms rs (rows-sorted low high rs b))
