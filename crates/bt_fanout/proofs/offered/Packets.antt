-- The effects of a batch are those of its packet.
use Rattle.std.proofs.Common.{◌≡◌, ℕ, Bool, true, false, cond, T, List, [], ◌∷◌, refl, sym, ap, ◌∙◌, Option, Some, None, if◌then◌else◌}
use Rattle.std.specs.Ordering.{eq_by_cmp}
use Rattle.std.specs.FinMap.{find, nat_cmp-IsAntisymmetric, slice_cmp-IsAntisymmetric}
use Rattle.std.specs.FinMap.Entries.{find-put, is_sorted, is_sorted-put, same_entries}
use Rattle.bt_value.specs.declared.value.Value.{Value}
use Rattle.bt_message.specs.Effects.{Rows, rows_after}
use Rattle.bt_keycode.specs.Keys.{is_before, key_cmp}
use Rattle.bt_message.specs.Messages.{Messages, sorted_batch, with_message, with_messages}
use Rattle.bt_keycode.proofs.offered.Order.{total_keys}
use Rattle.bt_messages.proofs.offered.Rows.{rows_after-sorted_batch}
use Rattle.bt_fanout.specs.Effects.{RowMessage, effects_at, effects_of, row_effect}
use Rattle.bt_fanout.specs.Selections.{named}

swapped : {A : Type 0} (b c : Bool) (s x : A) → cond b s (cond c s x) ≡ cond c s (cond b s x)
swapped true true s x = refl
swapped true false s x = refl
swapped false c s x = refl

module _ {M : Type 0} where
  -- whether a key is named, or was before
  abbrev joined : List ℕ → Messages M → Option (Unit {0}) → Option (Unit {0})
  joined q [] x = x
  joined q (m ∷ ms) x = joined q ms (cond (eq_by_cmp key_cmp q m.0) (Some tt) x)

  joined-first : (q : List ℕ) (ms : Messages M) (b : Bool) (x : Option (Unit {0})) → joined q ms (cond b (Some tt) x) ≡ cond b (Some tt) (joined q ms x)
  joined-first q [] b x = refl
  joined-first q (m ∷ ms) b x = ap (joined q ms) (swapped (eq_by_cmp key_cmp q m.0) b (Some tt) x) ∙ joined-first q ms b (cond (eq_by_cmp key_cmp q m.0) (Some tt) x)

  find-named : (q : List ℕ) (ms : Messages M) → find key_cmp q (named ms) ≡ joined q ms None
  find-named q [] = refl
  find-named q (m ∷ ms) =
      find-put key_cmp total_keys q m.0 tt (named ms) ∙ ap (cond (eq_by_cmp key_cmp q m.0) (Some tt)) (find-named q ms) ∙ sym (joined-first q ms (eq_by_cmp key_cmp q m.0) None)

  find-placed : (q : List ℕ) (m : List ℕ × M) (es : Messages M) → find key_cmp q (named (with_message m es)) ≡ cond (eq_by_cmp key_cmp q m.0) (Some tt) (find key_cmp q (named es))
  find-placed q m [] = find-put key_cmp total_keys q m.0 tt []
  find-placed q m (e ∷ es) = elim (is_before m.0 e.0) as (λ b. find key_cmp q (named (if b then m ∷ e ∷ es else e ∷ with_message m es))
      ≡ cond (eq_by_cmp key_cmp q m.0) (Some tt) (find key_cmp q (named (e ∷ es)))) [
        | true ↦ find-put key_cmp total_keys q m.0 tt (named (e ∷ es))
        | false ↦
            find-put key_cmp total_keys q e.0 tt (named (with_message m es)) ∙ ap (cond (eq_by_cmp key_cmp q e.0) (Some tt)) (find-placed q m es)
            ∙ swapped (eq_by_cmp key_cmp q e.0) (eq_by_cmp key_cmp q m.0) (Some tt) (find key_cmp q (named es))
            ∙ ap (cond (eq_by_cmp key_cmp q m.0) (Some tt)) (sym (find-put key_cmp total_keys q e.0 tt (named es)))
      ]

  find-all_placed : (q : List ℕ) (ms older : Messages M) → find key_cmp q (named (with_messages ms older)) ≡ joined q ms (find key_cmp q (named older))
  find-all_placed q [] older = refl
  find-all_placed q (m ∷ ms) older = find-all_placed q ms (with_message m older) ∙ ap (joined q ms) (find-placed q m older)

  pub sorted-named : (ms : Messages M) → T (is_sorted key_cmp (named ms))
  sorted-named [] = tt
  sorted-named (m ∷ ms) = is_sorted-put key_cmp total_keys m.0 tt (named ms) (sorted-named ms)

  -- a batch names the keys that it names when it is sorted
  pub named-sorted_batch : (batch : Messages M) → named (sorted_batch batch) ≡ named batch
  named-sorted_batch batch =
      same_entries key_cmp total_keys (slice_cmp-IsAntisymmetric nat_cmp-IsAntisymmetric) (named (sorted_batch batch)) (named batch) (sorted-named (sorted_batch batch)) (sorted-named batch)
      (λ q. find-all_placed q batch [] ∙ sym (find-named q batch))

pub effects-sorted_batch : (batch : Messages RowMessage) (rows : Rows (List Value)) → T (is_sorted key_cmp rows) → effects_of (sorted_batch batch) rows ≡ effects_of batch rows
effects-sorted_batch batch rows h =
    ap (λ ks. effects_at (λ k. find key_cmp k rows) (λ k. find key_cmp k (rows_after row_effect (sorted_batch batch) rows)) ks) (named-sorted_batch batch)
    ∙ ap (λ new. effects_at (λ k. find key_cmp k rows) (λ k. find key_cmp k new) (named batch)) (rows_after-sorted_batch row_effect batch rows h)
