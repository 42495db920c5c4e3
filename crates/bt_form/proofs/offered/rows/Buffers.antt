-- A buffer takes a packet: it stays in order and within its limits, and its messages have their effect before those of the packet.
use Rattle.std.proofs.Common.{◌≡◌, true, false, cond, [], ◌∷◌, refl, sym, ap, ◌∙◌}
use Rattle.std.specs.Ordering.{eq_by_cmp}
use Rattle.std.specs.declared.option.Option.{Option}
use Rattle.std.specs.declared.option.Option.TheVariants.{None, Some}
use Rattle.bt_keycode.specs.Keys.{Key, key_cmp, is_before, Within, AllWithin, IsSorted}
use Rattle.bt_form.specs.Messages.{Messages, value_after, with_message, with_messages}
use Rattle.bt_keycode.proofs.offered.Order.{all_within-from, same_key, not_before_itself}
use Rattle.bt_messages.proofs.offered.Placed.{sorted-with_messages}
use Rattle.bt_form.proofs.offered.rows.Values.{value-above}

module _ {M : Type 0} where
  within-with_message : (low high : Option Key) (m : Key × M) (b : Messages M) → Within low high m.0 → AllWithin low high b → AllWithin low high (with_message m b)
  within-with_message low high m [] w all = (w, tt)
  within-with_message low high m (e ∷ es) w all = elim (is_before m.0 e.0) as (λ t. AllWithin low high (cond t (m ∷ e ∷ es) (e ∷ with_message m es))) [
    | true ↦ (w, all)
    | false ↦ (all.0, within-with_message low high m es w all.1)
  ]

  pub within-with_messages : (low high : Option Key) (p b : Messages M) → AllWithin low high p → AllWithin low high b → AllWithin low high (with_messages p b)
  within-with_messages low high [] b p h = h
  within-with_messages low high (m ∷ ms) b p h = within-with_messages low high ms (with_message m b) p.1 (within-with_message low high m b p.0 h)

module _ {V M : Type 0} (effect : Option V → M → Option V) where
  value-with_message : (q : Key) (m : Key × M) (b : Messages M) (o : Option V) → IsSorted b → value_after effect q (with_message m b) o ≡ value_after effect q (m ∷ []) (value_after effect q b o)
  value-with_message q m [] o r = refl
  value-with_message q m (e ∷ es) o r = elim (is_before m.0 e.0) as (λ t. is_before m.0 e.0 ≡ t
      → value_after effect q (cond t (m ∷ e ∷ es) (e ∷ with_message m es)) o ≡ value_after effect q (m ∷ []) (value_after effect q (e ∷ es) o)) [
        | true ↦ λ t.
            elim (eq_by_cmp key_cmp q m.0) as (λ b. eq_by_cmp key_cmp q m.0 ≡ b →
            value_after effect q (e ∷ es) (cond b (effect o m.1) o) ≡ cond b (effect (value_after effect q (e ∷ es) o) m.1) (value_after effect q (e ∷ es) o)) [
              | true ↦ λ is.
                  let low = ap (λ k. is_before k e.0) (same_key q m.0 is) ∙ t in
                  let all : AllWithin (Some e.0) None (e ∷ es) = (record { from = not_before_itself e.0; below = refl }, all_within-from e.0 es r.0) in
                  value-above effect q e.0 None (e ∷ es) _ low all ∙ ap (λ x. effect x m.1) (sym (value-above effect q e.0 None (e ∷ es) o low all))
              | false ↦ λ is. refl
            ] refl
        | false ↦ λ t. value-with_message q m es _ r.1
      ] refl

  -- the messages of the buffer have their effect, and then those of the packet
  pub value-with_messages : (q : Key) (p b : Messages M) (o : Option V) → IsSorted b → value_after effect q (with_messages p b) o ≡ value_after effect q p (value_after effect q b o)
  value-with_messages q [] b o r = refl
  value-with_messages q (m ∷ ms) b o r = value-with_messages q ms (with_message m b) o (sorted-with_messages (m ∷ []) b r) ∙ ap (value_after effect q ms) (value-with_message q m b o r)
