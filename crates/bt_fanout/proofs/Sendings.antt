-- What is sent to an index changes it from the entries of the rows before to those of the rows after.
use Rattle.std.proofs.Common.{◌≡◌, ℕ, Bool, true, false, cond, T, List, [], ◌∷◌, ◌++◌, refl, sym, ap, subst, ◌∙◌, ◌⊎◌, inl, inr, Option, Some, None, if◌then◌else◌, is_some}
use Rattle.std.specs.Ordering.{eq_by_cmp}
use Rattle.std.specs.FinMap.{find}
use Rattle.std.specs.FinMap.Entries.{is_sorted}
use Rattle.std.specs.Cmp.{eq_by_cmp_equiv}
use Rattle.bt_message.specs.Effects.{Rows, effect_of, rows_after, value_after}
use Rattle.bt_keycode.specs.Keys.{key_cmp}
use Rattle.bt_message.specs.Messages.{Messages}
use Rattle.bt_message.specs.declared.message.Message.TheVariants.{Put, Del}
use Rattle.bt_keycode.proofs.offered.Order.{same_key, total_keys}
use Rattle.bt_messages.proofs.offered.Rows.{find-rows_after, same_rows, sorted-rows_after}
use Rattle.bt_fanout.specs.Selections.{between, entry_changes, entry_in, select}
use Rattle.bt_fanout.proofs.Lookups.{IsOwner, find-select, is_at, not-owner, sorted-select, value_at}

-- messages appended to others apply after them
value_after-append : {V M : Type 0} (effect : Option V → M → Option V) (q : List ℕ) (ms ns : Messages M) (o : Option V)
    → value_after effect q (ms ++ ns) o ≡ value_after effect q ns (value_after effect q ms o)
value_after-append effect q [] ns o = refl
value_after-append effect q (m ∷ ms) ns o = value_after-append effect q ms ns (cond (eq_by_cmp key_cmp q m.0) (effect o m.1) o)

module _ {E D : Type 0} (same : E → E → Bool) (sound : (a b : E) → same a b ≡ true → a ≡ b) (merged : Option E → D → E) where
  -- what is sent for a row whose entries have other keys changes nothing
  pub elsewhere : (q : List ℕ) (a b : Option (List ℕ × E)) (o : Option E) → is_at q a ≡ false → is_at q b ≡ false → value_after (effect_of merged) q (between same a b) o ≡ o
  elsewhere q None None o f g = refl
  elsewhere q None (Some new) o f g = ap (λ t. cond t (Some new.1) o) g
  elsewhere q (Some old) None o f g = ap (λ t. cond t None o) f
  elsewhere q (Some old) (Some new) o f g =
      elim (eq_by_cmp key_cmp old.0 new.0) as
      (λ t. value_after (effect_of merged) q (if t then (if same old.1 new.1 then [] else (new.0, Put new.1) ∷ []) else (old.0, Del) ∷ (new.0, Put new.1) ∷
      []) o ≡ o) [
        | true ↦ elim (same old.1 new.1) as (λ t. value_after (effect_of merged) q (if t then [] else (new.0, Put new.1) ∷ []) o ≡ o) [
          | true ↦ refl
          | false ↦ ap (λ t. cond t (Some new.1) o) g
        ]
        | false ↦ ap (λ t. cond t (Some new.1) (cond (eq_by_cmp key_cmp q old.0) None o)) g ∙ ap (λ t. cond t None o) f
      ]

  none_or : (t : Bool) (x o : Option E) → t ≡ false → (o ≡ None) ⊎ (o ≡ cond t x None) → o ≡ None
  none_or t x o e (inl h) = h
  none_or t x o e (inr h) = h ∙ ap (λ b. cond b x None) e

  none_both : (s t : Bool) (x y o : Option E) → s ≡ false → t ≡ false → (o ≡ cond s x None) ⊎ (o ≡ cond t y None) → o ≡ None
  none_both s t x y o e f (inl h) = h ∙ ap (λ b. cond b x None) e
  none_both s t x y o e f (inr h) = h ∙ ap (λ b. cond b y None) f

  -- a value put, deleted or neither, by these tests
  put_is : (t : Bool) (x o : Option E) → (t ≡ false → o ≡ None) → cond t x o ≡ cond t x None
  put_is true x o h = refl
  put_is false x o h = h refl

  del_is : (t : Bool) (o : Option E) → (t ≡ false → o ≡ None) → cond t None o ≡ None
  del_is true o h = refl
  del_is false o h = h refl

  joined : {x y o : Option E} → x ≡ y → (o ≡ x) ⊎ (o ≡ y) → o ≡ y
  joined e (inl h) = h ∙ e
  joined e (inr h) = h

  flipped : {x y o : Option E} → (o ≡ x) ⊎ (o ≡ y) → (o ≡ y) ⊎ (o ≡ x)
  flipped (inl h) = inr h
  flipped (inr h) = inl h

  -- what is sent for a row leaves the value of its new entry, if the value was that of its old entry or already that of the new one
  pub here : (q : List ℕ) (a b : Option (List ℕ × E)) (o : Option E) → (o ≡ value_at q a) ⊎ (o ≡ value_at q b) → value_after (effect_of merged) q (between same a b) o ≡ value_at q b
  here q None None o h = joined refl h
  here q None (Some new) o h = put_is (eq_by_cmp key_cmp q new.0) (Some new.1) o (λ e. none_or _ _ o e h)
  here q (Some old) None o h = del_is (eq_by_cmp key_cmp q old.0) o (λ e. none_or _ _ o e (flipped h))
  here q (Some old) (Some new) o h =
      elim (eq_by_cmp key_cmp old.0 new.0) as (λ t. eq_by_cmp key_cmp old.0 new.0 ≡ t →
      value_after (effect_of merged) q (if t then (if same old.1 new.1 then [] else (new.0, Put new.1) ∷ []) else (old.0, Del) ∷ (new.0, Put new.1) ∷ []) o ≡ value_at q (Some new)) [
        | true ↦ λ t.
            let key : old.0 ≡ new.0 = same_key old.0 new.0 t in
            elim (same old.1 new.1) as (λ s. same old.1 new.1 ≡ s → value_after (effect_of merged) q (if s then [] else (new.0, Put new.1) ∷ []) o ≡ value_at q (Some new)) [
              | true ↦ λ s. joined (ap (λ k. cond (eq_by_cmp key_cmp q k) (Some old.1) None) key ∙ ap (λ v. cond (eq_by_cmp key_cmp q new.0) (Some v) None) (sound old.1 new.1 s)) h
              | false ↦ λ s. put_is (eq_by_cmp key_cmp q new.0) (Some new.1) o (λ e. none_both _ _ _ _ o (ap (eq_by_cmp key_cmp q) key ∙ e) e h)
            ] refl
        | false ↦ λ t. put_is (eq_by_cmp key_cmp q new.0) (Some new.1) (cond (eq_by_cmp key_cmp q old.0) None o) (λ e. del_is (eq_by_cmp key_cmp q old.0) o (λ f. none_both _ _ _ _ o f e h))
      ] refl

alike : {A : Type 0} (b : Bool) (x : A) → cond b x x ≡ x
alike true x = refl
alike false x = refl

-- the test of two keys in the other order
pub turned : (j k : List ℕ) → eq_by_cmp key_cmp j k ≡ false → eq_by_cmp key_cmp k j ≡ false
turned j k e = (eq_by_cmp_equiv total_keys).symm k j ∙ e

module _ {X E D : Type 0} (entry : List ℕ → X → Option (List ℕ × E)) (same : E → E → Bool) (sound : (a b : E) → same a b ≡ true → a ≡ b) (merged : Option E → D → E) where
  -- only the key that has the entry at q decides; for all other keys nothing is sent to q
  entry_changes-at : (q k : List ℕ) (old new : Rows X) → IsOwner entry q k old → IsOwner entry q k new → (ks : Rows (Unit {0})) (o : Option E) →
      (o ≡ value_at q (entry_in entry k (find key_cmp k old))) ⊎ (o ≡ value_at q (entry_in entry k (find key_cmp k new))) →
      value_after (effect_of merged) q (entry_changes entry same (λ j. find key_cmp j old) (λ j. find key_cmp j new) ks) o
      ≡ cond (is_some (find key_cmp k ks)) (value_at q (entry_in entry k (find key_cmp k new))) o
  entry_changes-at q k old new c d [] o h = refl
  entry_changes-at q k old new c d (j ∷ ks) o h =
      let a = entry_in entry j.0 (find key_cmp j.0 old) in
      let b = entry_in entry j.0 (find key_cmp j.0 new) in
      let rest = entry_changes entry same (λ i. find key_cmp i old) (λ i. find key_cmp i new) ks in
      let wanted = value_at q (entry_in entry k (find key_cmp k new)) in
      value_after-append (effect_of merged) q (between same a b) rest o ∙ elim (eq_by_cmp key_cmp k j.0) as (λ t. eq_by_cmp key_cmp k j.0 ≡ t →
      value_after (effect_of merged) q rest (value_after (effect_of merged) q (between same a b) o) ≡ cond (is_some (cond t (Some j.1) (find key_cmp k ks))) wanted o) [
        | true ↦ λ t.
            let one : k ≡ j.0 = same_key k j.0 t in
            let sent_here = subst (λ i. (o ≡ value_at q (entry_in entry i (find key_cmp i old))) ⊎ (o ≡ value_at q (entry_in entry i (find key_cmp i new)))) one h in
            let done = here same sound merged q a b o sent_here ∙ ap (λ i. value_at q (entry_in entry i (find key_cmp i new))) (sym one) in
            ap (value_after (effect_of merged) q rest) done ∙ entry_changes-at q k old new c d ks wanted (inr refl) ∙ alike (is_some (find key_cmp k ks)) wanted
        | false ↦ λ t.
            let other = turned k j.0 t in
            ap (value_after (effect_of merged) q rest)
            (elsewhere same sound merged q a b o (not-owner entry q k j.0 old c other) (not-owner entry q k j.0 new d other))
            ∙ entry_changes-at q k old new c d ks o h
      ] refl

  -- Between two maps in which each key q has one owner, what is sent for all keys at which they differ changes the index of the one to the index of the other.
  pub sends : (old new : Rows X) (ks : Rows (Unit {0})) → T (is_sorted key_cmp old) → T (is_sorted key_cmp new) →
      ((k : List ℕ) → is_some (find key_cmp k ks) ≡ false → find key_cmp k old ≡ find key_cmp k new) →
      ((q : List ℕ) → (k : List ℕ) × (IsOwner entry q k old × IsOwner entry q k new)) →
      rows_after (effect_of merged) (entry_changes entry same (λ j. find key_cmp j old) (λ j. find key_cmp j new) ks) (select entry old) ≡ select entry new
  sends old new ks s t others owner =
      same_rows (effect_of merged) _ _ (sorted-rows_after (effect_of merged) (entry_changes entry same (λ j. find key_cmp j old) (λ j. find key_cmp j new) ks)
      (select entry old) (sorted-select entry old)) (sorted-select entry new)
      (λ q. at q (owner q).0 (owner q).1.0 (owner q).1.1)
    where
      at : (q k : List ℕ) → IsOwner entry q k old → IsOwner entry q k new →
          find key_cmp q (rows_after (effect_of merged) (entry_changes entry same (λ j. find key_cmp j old) (λ j. find key_cmp j new) ks) (select entry old)) ≡ find key_cmp q (select entry new)
      at q k c d =
          let was = find-select entry q k old s c in
          let is = find-select entry q k new t d in
          find-rows_after (effect_of merged) q (entry_changes entry same (λ j. find key_cmp j old) (λ j. find key_cmp j new) ks) (select entry old)
          ∙ entry_changes-at q k old new c d ks (find key_cmp q (select entry old)) (inl was)
          ∙ elim (is_some (find key_cmp k ks)) as (λ b. is_some (find key_cmp k ks) ≡ b
          → cond b (value_at q (entry_in entry k (find key_cmp k new))) (find key_cmp q (select entry old))
          ≡ value_at q (entry_in entry k (find key_cmp k new))) [
            | true ↦ λ b. refl
            | false ↦ λ b. was ∙ ap (λ x. value_at q (entry_in entry k x)) (others k b)
          ] refl
          ∙ sym is
