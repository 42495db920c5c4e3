-- What an index has at a key: the entry of one row.
use Rattle.std.proofs.Common.{◌≡◌, ℕ, Bool, true, false, cond, ◌&&◌, T, List, [], ◌∷◌, refl, sym, ap, ◌∙◌, Option, Some, None, true≢false}
use Rattle.std.specs.Ordering.{eq_by_cmp, is_lt, is_eq}
use Rattle.std.specs.FinMap.{find}
use Rattle.std.specs.FinMap.Entries.{below_all, find-put, is_sorted, is_sorted-put}
use Rattle.std.specs.Cmp.{tied_itself}
use Rattle.std.specs.declared.cmp.Ordering.{Ordering}
use Rattle.std.specs.declared.cmp.Ordering.TheVariants.{Less, Equal, Greater}
use Rattle.bt_message.specs.Effects.{Rows}
use Rattle.bt_keycode.specs.Keys.{key_cmp}
use Rattle.bt_keycode.proofs.offered.Order.{same_key, total_keys}
use Rattle.bt_keycode.proofs.offered.Truths.{t_first, t_second}
use Rattle.bt_fanout.specs.Selections.{entry_in, select, with_entry}

less_is_not_equal : (o : Ordering) → T (is_lt o) → is_eq o ≡ false
less_is_not_equal Less p = refl
less_is_not_equal Equal p = absurd p
less_is_not_equal Greater p = absurd p

-- a key before all others has no row
pub find_below : {X : Type 0} (q : List ℕ) (rows : Rows X) → T (below_all key_cmp q rows) → find key_cmp q rows ≡ None
find_below q [] h = refl
find_below q (r ∷ rows) h =
    ap (λ b. cond b (Some r.1) (find key_cmp q rows)) (less_is_not_equal (key_cmp q r.0) (t_first _ _ h)) ∙ find_below q rows (t_second _ _ h)

pub equal_itself : (k : List ℕ) → eq_by_cmp key_cmp k k ≡ true
equal_itself k = ap is_eq (tied_itself total_keys k)

module _ {E : Type 0} where
  -- whether an entry has this key
  abbrev pub is_at : List ℕ → Option (List ℕ × E) → Bool
  is_at q None = false
  is_at q (Some e) = eq_by_cmp key_cmp q e.0

  -- its value, if it has this key
  abbrev pub value_at : List ℕ → Option (List ℕ × E) → Option E
  value_at q None = None
  value_at q (Some e) = cond (eq_by_cmp key_cmp q e.0) (Some e.1) None

  pub value_elsewhere : (q : List ℕ) (o : Option (List ℕ × E)) → is_at q o ≡ false → value_at q o ≡ None
  value_elsewhere q None h = refl
  value_elsewhere q (Some e) h = ap (λ b. cond b (Some e.1) None) h

  find-here : (q : List ℕ) (o : Option (List ℕ × E)) (index : Rows E) → is_at q o ≡ true → find key_cmp q (with_entry o index) ≡ value_at q o
  find-here q None index h = absurd (true≢false (sym h))
  find-here q (Some e) index h = find-put key_cmp total_keys q e.0 e.1 index ∙ ap (λ b. cond b (Some e.1) (find key_cmp q index)) h ∙ sym (ap (λ b. cond b (Some e.1) None) h)

  find-elsewhere : (q : List ℕ) (o : Option (List ℕ × E)) (index : Rows E) → is_at q o ≡ false → find key_cmp q (with_entry o index) ≡ find key_cmp q index
  find-elsewhere q None index h = refl
  find-elsewhere q (Some e) index h = find-put key_cmp total_keys q e.0 e.1 index ∙ ap (λ b. cond b (Some e.1) (find key_cmp q index)) h

  sorted-with_entry : (o : Option (List ℕ × E)) (index : Rows E) → T (is_sorted key_cmp index) → T (is_sorted key_cmp (with_entry o index))
  sorted-with_entry None index h = h
  sorted-with_entry (Some e) index h = is_sorted-put key_cmp total_keys e.0 e.1 index h

module _ {X E : Type 0} (entry : List ℕ → X → Option (List ℕ × E)) where
  pub sorted-select : (rows : Rows X) → T (is_sorted key_cmp (select entry rows))
  sorted-select [] = tt
  sorted-select (r ∷ rows) = sorted-with_entry (entry r.0 r.1) (select entry rows) (sorted-select rows)

  -- of these rows only the one under a key has an entry with the key q
  abbrev pub IsOwner : List ℕ → List ℕ → Rows X → Type 0
  IsOwner q k [] = Unit {0}
  IsOwner q k (r ∷ rows) = (is_at q (entry r.0 r.1) ≡ true → r.0 ≡ k) × IsOwner q k rows

  -- what the index has at q comes from that row
  pub find-select : (q k : List ℕ) (rows : Rows X) → T (is_sorted key_cmp rows) → IsOwner q k rows → find key_cmp q (select entry rows) ≡ value_at q (entry_in entry k (find key_cmp k rows))
  find-select q k [] s o = refl
  find-select q k (r ∷ rows) s o = elim (is_at q (entry r.0 r.1)) as (λ t. is_at q (entry r.0 r.1) ≡ t
      → find key_cmp q (select entry (r ∷ rows)) ≡ value_at q (entry_in entry k (find key_cmp k (r ∷ rows)))) [
        | true ↦ λ t.
            let one = o.0 t in
            let found : find key_cmp k (r ∷ rows) ≡ Some r.1 = ap (λ b. cond b (Some r.1) (find key_cmp k rows)) (ap (λ j. eq_by_cmp key_cmp k j) one ∙ equal_itself k) in
            find-here q (entry r.0 r.1) (select entry rows) t ∙ ap (λ j. value_at q (entry j r.1)) one ∙ sym (ap (λ x. value_at q (entry_in entry k x)) found)
        | false ↦ λ t.
            let others = find-elsewhere q (entry r.0 r.1) (select entry rows) t ∙ find-select q k rows (t_second _ _ s) o.1 in
            others ∙ elim (eq_by_cmp key_cmp k r.0) as (λ b. eq_by_cmp key_cmp k r.0 ≡ b
            → value_at q (entry_in entry k (find key_cmp k rows)) ≡ value_at q (entry_in entry k (cond b (Some r.1) (find key_cmp k rows)))) [
              | true ↦ λ b.
                  let one = same_key k r.0 b in
                  let none = ap (λ j. find key_cmp j rows) one ∙ find_below r.0 rows (t_first _ _ s) in
                  ap (λ x. value_at q (entry_in entry k x)) none ∙ sym (value_elsewhere q (entry r.0 r.1) t) ∙ ap (λ j. value_at q (entry j r.1)) (sym one)
              | false ↦ λ b. refl
            ] refl
      ] refl

  -- the row under another key has no entry with the key q
  pub not-owner : (q k j : List ℕ) (rows : Rows X) → IsOwner q k rows → eq_by_cmp key_cmp j k ≡ false → is_at q (entry_in entry j (find key_cmp j rows)) ≡ false
  not-owner q k j [] o h = refl
  not-owner q k j (r ∷ rows) o h = elim (eq_by_cmp key_cmp j r.0) as (λ b. eq_by_cmp key_cmp j r.0 ≡ b → is_at q (entry_in entry j (cond b (Some r.1) (find key_cmp j rows))) ≡ false) [
    | true ↦ λ b.
        let one = same_key j r.0 b in
        elim (is_at q (entry j r.1)) as (λ t. is_at q (entry j r.1) ≡ t → t ≡ false) [
          | true ↦ λ t.
              let here = one ∙ o.0 (ap (λ i. is_at q (entry i r.1)) (sym one) ∙ t) in
              absurd (true≢false (sym (equal_itself k) ∙ sym (ap (λ i. eq_by_cmp key_cmp i k) here) ∙ h))
          | false ↦ λ t. refl
        ] refl
    | false ↦ λ b. not-owner q k j rows o.1 h
  ] refl
