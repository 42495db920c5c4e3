-- One pass that applies messages to rows.
use Rattle.std.proofs.Common.{◌≡◌, ◌∙◌, ◌-◌, ◌≤◌, ℕ, zero, suc, Bool, true, false, not, ◌&&◌, cond, T, List, [], ◌∷◌, ◌++◌, append_assoc, length}
use Rattle.std.proofs.Common.{get_or, take, drop, append-nil, refl, sym, ap, subst, true≢false, arith, option_to_list, option_map}
use Rattle.std.proofs.lemmas.Bool.{and_parts}
use Rattle.std.proofs.lemmas.List.{take_rest}
use Rattle.std.specs.Ordering.{is_eq, is_lt, ordering_reverse}
use Rattle.std.specs.FinMap.{find, put, is_sorted, nat_cmp-IsAntisymmetric, slice_cmp-IsAntisymmetric}
use Rattle.std.specs.FinMap.Entries.{below_all, by_order, is_sorted-put, is_sorted-where_key}
use Rattle.std.specs.declared.cmp.Ordering.{Ordering}
use Rattle.std.specs.declared.cmp.Ordering.TheVariants.{Less, Equal, Greater}
use Rattle.std.specs.declared.option.Option.{Option}
use Rattle.std.specs.declared.option.Option.TheVariants.{None, Some}
use Rattle.bt_keycode.specs.Keys.{AllFrom, IsSorted, Key, key_cmp, is_before}
use Rattle.bt_form.specs.Deals.{deal, parted}
use Rattle.bt_form.specs.Messages.{Rows, Messages, before, from, rows_after, with_value}
use Rattle.bt_keycode.proofs.offered.Order.{total_keys, before_chain, before_later, later_chain, is_less, not_after, not_before_itself}
use Rattle.bt_form.proofs.offered.rows.RowsAfter.{rows_after-sorted}
use Rattle.bt_keycode.proofs.offered.Truths.{true_t}

both : (a b : Bool) → a ≡ true → b ≡ true → a && b ≡ true
both a b p q = ap (λ t. t && b) p ∙ q

pub turned : (a b : Key) (o : Ordering) → key_cmp a b ≡ o → key_cmp b a ≡ ordering_reverse o
turned a b o e = total_keys.antisymm b a ∙ ap ordering_reverse e

pub at_end : {X : Type 0} (xs ys all : List X) → length ys ≡ 0 → xs ++ ys ≡ all → xs ≡ all
at_end xs [] all e h = sym (append-nil xs) ∙ h
at_end xs (y ∷ ys) all e h = absurd (omega arith)

module _ {V : Type 0} where
  all_above : (a b : Key) (rs : Rows V) → is_before a b ≡ true → below_all key_cmp b rs ≡ true → below_all key_cmp a rs ≡ true
  all_above a b [] l h = refl
  all_above a b (r ∷ rs) l h =
      let parts = and_parts _ _ h in
      both _ _ (before_chain a b r.0 l parts.0) (all_above a b rs l parts.1)

  -- a key before all rows has no value
  pub not_among : (k : Key) (rs : Rows V) → below_all key_cmp k rs ≡ true → (find key_cmp k rs ≡ None) × (with_value k None rs ≡ rs)
  not_among k [] h = (refl, refl)
  not_among k (r ∷ rs) h =
      let parts = and_parts _ _ h in
      let order = is_less _ parts.0 in
      let others = not_among k rs parts.1 in (
        ap (λ o. cond (is_eq o) (Some r.1) (find key_cmp k rs)) order ∙ others.0,
        ap (λ o. cond (not (is_eq o)) (r ∷ with_value k None rs) (with_value k None rs)) order ∙ ap (λ zs. r ∷ zs) others.1,
      )

  -- ---- rows before a key, and from it on

  none_before : (k : Key) (r : Key × V) (rs : Rows V) → is_before r.0 k ≡ false → below_all key_cmp r.0 rs ≡ true → (before k rs ≡ []) × (from k rs ≡ rs)
  none_before k r [] e h = (refl, refl)
  none_before k r (s ∷ rs) e h =
      let parts = and_parts _ _ h in
      let here = later_chain k r.0 s.0 e (not_after r.0 s.0 parts.0) in
      let others = none_before k r rs e parts.1 in (
        ap (λ b. cond b (s ∷ before k rs) (before k rs)) here ∙ others.0,
        ap (λ b. cond (not b) (s ∷ from k rs) (from k rs)) here ∙ ap (λ zs. s ∷ zs) others.1,
      )

  -- if the first row isn't before the key, none is
  stops : (k : Key) (r : Key × V) (rs : Rows V) → is_sorted key_cmp (r ∷ rs) ≡ true → is_before r.0 k ≡ false → (before k (r ∷ rs) ≡ []) × (from k (r ∷ rs) ≡ r ∷ rs)
  stops k r rs h e =
      let others = none_before k r rs e (and_parts _ _ h).0 in (
        ap (λ b. cond b (r ∷ before k rs) (before k rs)) e ∙ others.0,
        ap (λ b. cond (not b) (r ∷ from k rs) (from k rs)) e ∙ ap (λ zs. r ∷ zs) others.1,
      )

  pub stops_at : (k : Key) (first : Key × V) (rs : Rows V) → is_sorted key_cmp rs ≡ true → first ≡ get_or rs 0 first → is_before first.0 k ≡ false → (before k rs ≡ []) × (from k rs ≡ rs)
  stops_at k first [] h f e = (refl, refl)
  stops_at k first (r ∷ rs) h f e = stops k r rs h (ap (λ (x : Key × V). is_before x.0 k) (sym f) ∙ e)

  pub sorted_from : (k : Key) (rs : Rows V) → is_sorted key_cmp rs ≡ true → is_sorted key_cmp (from k rs) ≡ true
  sorted_from k rs h = true_t _ (is_sorted-where_key key_cmp (λ j. not (is_before j k)) rs (subst T (sym h) tt))

  none_before_from : (k : Key) (rs : Rows V) → before k (from k rs) ≡ []
  none_before_from k [] = refl
  none_before_from k (r ∷ rs) = elim (is_before r.0 k) as (λ b. is_before r.0 k ≡ b → before k (cond (not b) (r ∷ from k rs) (from k rs)) ≡ []) [
    | true ↦ λ e. none_before_from k rs
    | false ↦ λ e. ap (λ b. cond b (r ∷ before k (from k rs)) (before k (from k rs))) e ∙ none_before_from k rs
  ] refl

  pub before_of : (k : Key) (rs later : Rows V) → later ≡ from k rs → before k later ≡ []
  before_of k rs later e = ap (before k) e ∙ none_before_from k rs

  pub not_before_first : (k : Key) (r : Key × V) (rs : Rows V) → before k (r ∷ rs) ≡ [] → is_before r.0 k ≡ false
  not_before_first k r rs = elim (is_before r.0 k) as (λ b. cond b (r ∷ before k rs) (before k rs) ≡ [] → b ≡ false) [
    | true ↦ λ e. absurd (cc e)
    | false ↦ λ e. refl
  ]

  -- ---- the first row, if none is before the key

  pub same_key_above : (k : Key) (r : Key × V) (rs : Rows V) → is_sorted key_cmp (r ∷ rs) ≡ true → key_cmp r.0 k ≡ Equal → below_all key_cmp k rs ≡ true
  same_key_above k r rs h e = subst (λ j. below_all key_cmp j rs ≡ true) (slice_cmp-IsAntisymmetric nat_cmp-IsAntisymmetric r.0 k e) (and_parts _ _ h).0

  pub first_taken : (k : Key) (r : Key × V) (rs : Rows V) → is_sorted key_cmp (r ∷ rs) ≡ true → key_cmp r.0 k ≡ Equal → (Some r.1 ≡ find key_cmp k (r ∷ rs)) × (rs ≡ with_value k None (r ∷ rs))
  first_taken k r rs h e =
      let order = turned r.0 k Equal e in
      let others = not_among k rs (same_key_above k r rs h e) in (
        sym (ap (λ o. cond (is_eq o) (Some r.1) (find key_cmp k rs)) order),
        sym (ap (λ o. cond (not (is_eq o)) (r ∷ with_value k None rs) (with_value k None rs)) order ∙ others.1),
      )

  pub above_first : (k : Key) (r : Key × V) (rs : Rows V) → is_sorted key_cmp (r ∷ rs) ≡ true → before k (r ∷ rs) ≡ [] → (key_cmp r.0 k ≡ Equal → ⊥) → below_all key_cmp k (r ∷ rs) ≡ true
  above_first k r rs h b n = go (key_cmp r.0 k) refl
    where
      go : (o : Ordering) → key_cmp r.0 k ≡ o → below_all key_cmp k (r ∷ rs) ≡ true
      go Less e = absurd (true≢false (sym (ap is_lt e) ∙ not_before_first k r rs b))
      go Equal e = absurd (n e)
      go Greater e = let l : is_before k r.0 ≡ true = ap is_lt (turned r.0 k Greater e) in both _ _ l (all_above k r.0 rs l (and_parts _ _ h).0)

  pub first_kept : (k : Key) (r : Key × V) (rs : Rows V) → is_sorted key_cmp (r ∷ rs) ≡ true → before k (r ∷ rs) ≡ [] → (key_cmp r.0 k ≡ Equal → ⊥) →
      (None ≡ find key_cmp k (r ∷ rs)) × (r ∷ rs ≡ with_value k None (r ∷ rs))
  first_kept k r rs h b n = let none = not_among k (r ∷ rs) (above_first k r rs h b n) in (sym none.0, sym none.1)

  pub first_taken_at : (k : Key) (first r : Key × V) (rs rest : Rows V) → is_sorted key_cmp rs ≡ true → rs ≡ r ∷ rest → first ≡ get_or rs 0 first → key_cmp first.0 k ≡ Equal →
      (Some r.1 ≡ find key_cmp k rs) × (rest ≡ with_value k None rs)
  first_taken_at k first r rs rest h e f same =
      let tied : key_cmp r.0 k ≡ Equal = sym (ap (λ (x : Key × V). key_cmp x.0 k) (f ∙ ap (λ zs. get_or zs 0 first) e)) ∙ same in
      let taken = first_taken k r rest (subst (λ zs. is_sorted key_cmp zs ≡ true) e h) tied in
      (taken.0 ∙ sym (ap (find key_cmp k) e), taken.1 ∙ sym (ap (with_value k None) e))

  -- the same for a list with a first row and others
  pub first_of_rows : (k : Key) (first : Key × V) (rs : Rows V) → is_sorted key_cmp rs ≡ true → 1 ≤ length rs → first ≡ get_or rs 0 first → key_cmp first.0 k ≡ Equal →
      (Some first.1 ≡ find key_cmp k rs) × (take (length rs - 1) (drop 1 rs) ≡ with_value k None rs)
  first_of_rows k first [] h some f same = absurd (omega (arith, some))
  first_of_rows k first (r ∷ rs) h some f same =
      let taken = first_taken k r rs h (sym (ap (λ (x : Key × V). key_cmp x.0 k) f) ∙ same) in
      (ap (λ (x : Key × V). Some x.1) f ∙ taken.0, take_rest (r ∷ rs) 1 ∙ taken.1)

  pub first_kept_at : (k : Key) (first : Key × V) (rs : Rows V) → is_sorted key_cmp rs ≡ true → before k rs ≡ [] → first ≡ get_or rs 0 first → (key_cmp first.0 k ≡ Equal → ⊥) →
      (None ≡ find key_cmp k rs) × (rs ≡ with_value k None rs)
  first_kept_at k first [] h b f n = (refl, refl)
  first_kept_at k first (r ∷ rs) h b f n = first_kept k r rs h b (λ e. n (ap (λ (x : Key × V). key_cmp x.0 k) f ∙ e))

  -- a row put before the others
  pub put_first : (k : Key) (v : V) (rs : Rows V) → is_sorted key_cmp rs ≡ true → before k rs ≡ [] → (k, v) ∷ with_value k None rs ≡ with_value k (Some v) rs
  put_first k v [] h b = refl
  put_first k v (r ∷ rs) h b = go (key_cmp r.0 k) refl
    where
      placed : (o : Ordering) → key_cmp k r.0 ≡ o → with_value k (Some v) (r ∷ rs) ≡ by_order o ((k, v) ∷ r ∷ rs) ((r.0, v) ∷ rs) (r ∷ put key_cmp k v rs)
      placed o e = ap (λ w. by_order w ((k, v) ∷ r ∷ rs) ((r.0, v) ∷ rs) (r ∷ put key_cmp k v rs)) e

      go : (o : Ordering) → key_cmp r.0 k ≡ o → (k, v) ∷ with_value k None (r ∷ rs) ≡ with_value k (Some v) (r ∷ rs)
      go Less e = absurd (true≢false (sym (ap is_lt e) ∙ not_before_first k r rs b))
      go Equal e =
          ap (λ zs. (k, v) ∷ zs) (sym (first_taken k r rs h e).1) ∙ ap (λ (j : Key). (j, v) ∷ rs) (sym (slice_cmp-IsAntisymmetric nat_cmp-IsAntisymmetric r.0 k e))
          ∙ sym (placed Equal (turned r.0 k Equal e))
      go Greater e =
          ap (λ zs. (k, v) ∷ zs) (sym (first_kept k r rs h b (λ f. cc (e, f))).1) ∙ sym (placed Less (turned r.0 k Greater e))

  pub sorted_changed : (k : Key) (o : Option V) (rs : Rows V) → is_sorted key_cmp rs ≡ true → is_sorted key_cmp (with_value k o rs) ≡ true
  sorted_changed k None rs h = true_t _ (is_sorted-where_key key_cmp _ rs (subst T (sym h) tt))
  sorted_changed k (Some v) rs h = true_t _ (is_sorted-put key_cmp total_keys k v rs (subst T (sym h) tt))

  -- ---- parts

  above_take : (n : ℕ) (k : Key) (rs : Rows V) → below_all key_cmp k rs ≡ true → below_all key_cmp k (take n rs) ≡ true
  above_take zero k rs h = refl
  above_take (suc n) k [] h = refl
  above_take (suc n) k (r ∷ rs) h = let parts = and_parts _ _ h in both _ _ parts.0 (above_take n k rs parts.1)

  pub sorted_take : (n : ℕ) (rs : Rows V) → is_sorted key_cmp rs ≡ true → is_sorted key_cmp (take n rs) ≡ true
  sorted_take zero rs h = refl
  sorted_take (suc n) [] h = refl
  sorted_take (suc n) (r ∷ rs) h = let parts = and_parts _ _ h in both _ _ (above_take n r.0 rs parts.0) (sorted_take n rs parts.1)

  pub sorted_drop : (n : ℕ) (rs : Rows V) → is_sorted key_cmp rs ≡ true → is_sorted key_cmp (drop n rs) ≡ true
  sorted_drop zero rs h = h
  sorted_drop (suc n) [] h = refl
  sorted_drop (suc n) (r ∷ rs) h = sorted_drop n rs (and_parts _ _ h).1

  abbrev pub AllSorted : List (Rows V) → Type 0
  AllSorted [] = Unit {0}
  AllSorted (rs ∷ rest) = (is_sorted key_cmp rs ≡ true) × AllSorted rest

  pub sorted_parted : (ns : List ℕ) (rs : Rows V) → is_sorted key_cmp rs ≡ true → AllSorted (parted ns rs)
  sorted_parted [] rs h = tt
  sorted_parted (n ∷ ns) rs h = (sorted_take n rs h, sorted_parted ns (drop n rs) (sorted_drop n rs h))

  -- parts of sorted rows are sorted
  pub sorted_deal : (m : ℕ) (rs : Rows V) → is_sorted key_cmp rs ≡ true → AllSorted (deal m rs)
  sorted_deal m rs h = sorted_parted _ rs h

module _ {V M : Type 0} (effect : Option V → M → Option V) where
  change_later : (k : Key) (o : Option V) (r : Key × V) (rs : Rows V) → key_cmp k r.0 ≡ Greater → with_value k o (r ∷ rs) ≡ r ∷ with_value k o rs
  change_later k None r rs e = ap (λ w. cond (not (is_eq w)) (r ∷ with_value k None rs) (with_value k None rs)) e
  change_later k (Some v) r rs e = ap (λ w. by_order w ((k, v) ∷ r ∷ rs) ((r.0, v) ∷ rs) (r ∷ put key_cmp k v rs)) e

  -- a row before all messages stays first
  pub first_stays : (k : Key) (r : Key × V) (ms : Messages M) (rs : Rows V) → is_before r.0 k ≡ true → AllFrom k ms → rows_after effect ms (r ∷ rs) ≡ r ∷ rows_after effect ms rs
  first_stays k r [] rs l h = refl
  first_stays k r (m ∷ ms) rs l h =
      let order : key_cmp m.0 r.0 ≡ Greater = turned r.0 m.0 Less (is_less _ (before_later r.0 k m.0 l h.0)) in
      let old = ap (λ o. cond (is_eq o) (Some r.1) (find key_cmp m.0 rs)) order in
      ap (λ o. rows_after effect ms (with_value m.0 (effect o m.1) (r ∷ rs))) old
      ∙ ap (rows_after effect ms) (change_later m.0 (effect (find key_cmp m.0 rs) m.1) r rs order)
      ∙ first_stays k r ms _ l h.1

  -- messages leave the rows before their keys as they are
  pub split_at : (k : Key) (ms : Messages M) (rs : Rows V) → AllFrom k ms → is_sorted key_cmp rs ≡ true → rows_after effect ms rs ≡ before k rs ++ rows_after effect ms (from k rs)
  split_at k ms [] h s = refl
  split_at k ms (r ∷ rs) h s = elim (is_before r.0 k) as (λ b. is_before r.0 k ≡ b →
      rows_after effect ms (r ∷ rs) ≡ cond b (r ∷ before k rs) (before k rs) ++ rows_after effect ms (cond (not b) (r ∷ from k rs) (from k rs))) [
        | true ↦ λ e. first_stays k r ms rs e h ∙ ap (λ zs. r ∷ zs) (split_at k ms rs h (and_parts _ _ s).1)
        | false ↦ λ e.
            let none = none_before k r rs e (and_parts _ _ s).0 in
            sym (ap (λ zs. zs ++ rows_after effect ms (r ∷ from k rs)) none.0 ∙ ap (λ zs. rows_after effect ms (r ∷ zs)) none.1)
      ] refl

  -- the rows that are left to change after the message m
  abbrev pub changed_by : Key × M → Rows V → Rows V
  changed_by m rs = with_value m.0 (effect (find key_cmp m.0 (from m.0 rs)) m.1) (from m.0 rs)

  -- a step of the pass
  pub pass_step : (m : Key × M) (ms rest : Messages M) (done more rs changed wanted : Rows V) → rest ≡ m ∷ ms → IsSorted rest → is_sorted key_cmp rs ≡ true →
      more ≡ done ++ before m.0 rs → changed ≡ changed_by m rs → done ++ rows_after effect rest rs ≡ wanted → more ++ rows_after effect ms changed ≡ wanted
  pass_step m ms rest done more rs changed wanted e h s d c w =
      let sorted : IsSorted (m ∷ ms) = subst (IsSorted {X = M}) e h in
      ap (λ zs. zs ++ rows_after effect ms changed) d ∙ ap (λ zs. (done ++ before m.0 rs) ++ rows_after effect ms zs) c
      ∙ append_assoc done (before m.0 rs) _
      ∙ ap (λ zs. done ++ zs) (sym (split_at m.0 (m ∷ ms) rs (not_before_itself m.0, sorted.0) s))
      ∙ ap (λ zs. done ++ rows_after effect zs rs) (sym e) ∙ w

  -- the row of the message's key is taken off the rows from there on, and its value gives the new one
  pub record IsChange (m : Key × M) (rs others : Rows V) (new : Option V) : Type 0 where
    pub later : Rows V
    pub old : Option V
    pub later_are : later ≡ from m.0 rs
    pub old_is : old ≡ find key_cmp m.0 later
    pub new_is : new ≡ effect old m.1
    pub others_are : others ≡ with_value m.0 None later

  module _ (m : Key × M) (rs : Rows V) {others : Rows V} {new : Option V} (change : IsChange m rs others new) where
    effect_is : new ≡ effect (find key_cmp m.0 (from m.0 rs)) m.1
    effect_is = change.new_is ∙ ap (λ o. effect o m.1) (change.old_is ∙ ap (find key_cmp m.0) change.later_are)

    others_stay : others ≡ with_value m.0 None (from m.0 rs)
    others_stay = change.others_are ∙ ap (with_value m.0 None) change.later_are

  -- the new value after a message is put in front of the others, if there is one
  pub put_in_front : (m : Key × M) (rs : Rows V) {others changed : Rows V} (new : Option V) → is_sorted key_cmp rs ≡ true → IsChange m rs others new →
      changed ≡ option_to_list (option_map (λ v. (m.0, v)) new) ++ others → changed ≡ changed_by m rs
  put_in_front m rs (Some v) s change c =
      c ∙ ap (λ zs. (m.0, v) ∷ zs) (others_stay m rs change) ∙ put_first m.0 v (from m.0 rs) (sorted_from m.0 rs s) (none_before_from m.0 rs)
      ∙ ap (λ w. with_value m.0 w (from m.0 rs)) (effect_is m rs change)
  put_in_front m rs None s change c = c ∙ others_stay m rs change ∙ ap (λ w. with_value m.0 w (from m.0 rs)) (effect_is m rs change)

  pub changed_sorted : (m : Key × M) (rs changed : Rows V) → is_sorted key_cmp rs ≡ true → changed ≡ changed_by m rs → is_sorted key_cmp changed ≡ true
  changed_sorted m rs changed s c = subst (λ zs. is_sorted key_cmp zs ≡ true) (sym c) (sorted_changed m.0 _ (from m.0 rs) (sorted_from m.0 rs s))

  -- rows after messages are sorted
  pub result_sorted : (ms : Messages M) (rs result : Rows V) → is_sorted key_cmp rs ≡ true → result ≡ rows_after effect ms rs → is_sorted key_cmp result ≡ true
  result_sorted ms rs result s e = subst (λ zs. is_sorted key_cmp zs ≡ true) (sym e) (true_t _ (rows_after-sorted effect ms rs (subst T (sym s) tt)))
