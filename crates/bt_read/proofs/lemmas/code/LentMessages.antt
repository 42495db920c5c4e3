-- Borrowed messages, taken off one by one and merged with others.
use Rattle.std.proofs.Common.{◌≡◌, ◌<◌, ◌≤◌, ◌+◌, ◌-◌, ℕ, zero, suc, Bool, true, false, not, cond, List, [], ◌∷◌, ◌++◌, append_assoc}
use Rattle.std.proofs.Common.{append-nil, arith, drop, get_or, length, map, refl, sym, ap, subst, take, ◌∙◌, true≢false}
use Rattle.std.proofs.lemmas.List.{at_drop_more, map-append, take_rest}
use Rattle.std.specs.List.Sorted.{IsPartitionedBy, IsPartitionPoint}
use Rattle.std.specs.Cmp.{tied_itself}
use Rattle.std.specs.Ordering.{eq_by_cmp, is_eq}
use Rattle.std.specs.declared.option.Option.{Option}
use Rattle.std.specs.declared.option.Option.TheVariants.{None, Some}
use Rattle.bt_keycode.specs.Keys.{AllFrom, IsSorted, Key, is_before, is_before_upper, key_cmp}
use Rattle.bt_message.specs.Messages.{messages_past, messages_up_to}
use Rattle.bt_message.specs.Messages.{messages_outside as outside}
use Rattle.bt_form.specs.Messages.{Messages, before, between, from, value_after, with_messages}
use Rattle.bt_keycode.proofs.offered.Order.{all_within-from, from_earlier, later_chain, neither_before, not_after, not_before_itself, same_key, total_keys}
use Rattle.bt_messages.proofs.offered.Placed.{alone, first_stays, newer_first}
use Rattle.bt_messages.proofs.offered.Rows.{value_before}
use Rattle.bt_form.proofs.offered.keys.SortedLists.{sorted-where}
use Rattle.bt_form.proofs.offered.rows.Between.{none-over}

-- a key equals itself
pub ties : (k j : Key) → k ≡ j → eq_by_cmp key_cmp k j ≡ true
ties k j same = ap (λ i. eq_by_cmp key_cmp k i) (sym same) ∙ ap is_eq (tied_itself total_keys k)

module _ {M : Type 0} where
  -- ---- those before a bound

  upper_stops : (high : Option Key) (m : Key × M) (ms : Messages M) → IsSorted (m ∷ ms) → is_before_upper high m.0 ≡ false → between None high (m ∷ ms) ≡ []
  upper_stops None m ms sorted past = absurd (true≢false past)
  upper_stops (Some t) m ms sorted past = none-over t m.0 None None (m ∷ ms) past (record { from = not_before_itself m.0; below = refl }, all_within-from m.0 ms sorted.0)

  -- if the first isn't before a bound, none is
  pub first_stops : {R : Type 0} (seen : R → Key × M) (items : List R) (first : R) (ms : Messages M) (high : Option Key) → map seen items ≡ ms → first ≡ get_or items 0 first → IsSorted ms →
      is_before_upper high (seen first).0 ≡ false → between None high ms ≡ []
  first_stops seen [] first ms high is at sorted past = ap (between None high) (sym is)
  first_stops seen (r ∷ rs) first ms high is at sorted past =
      ap (between None high) (sym is) ∙ upper_stops high (seen r) (map seen rs) (subst (IsSorted {X = M}) (sym is) sorted) (ap (λ x. is_before_upper high (seen x).0) (sym at) ∙ past)

  module _ (high : Option Key) (m : Key × M) (ms rest : Messages M) (here : ms ≡ m ∷ rest) (below : is_before_upper high m.0 ≡ true) where
    -- one more is taken
    pub one_taken : (taken after wanted : Messages M) → after ≡ taken ++ m ∷ [] → taken ++ between None high ms ≡ wanted → after ++ between None high rest ≡ wanted
    one_taken taken after wanted is so_far =
        ap (λ zs. zs ++ between None high rest) is ∙ append_assoc taken (m ∷ []) (between None high rest)
        ∙ ap (λ b. taken ++ cond b (m ∷ between None high rest) (between None high rest)) (sym below) ∙ ap (λ zs. taken ++ between None high zs) (sym here) ∙ so_far

    pub others_left : (wanted : Messages M) → outside None high ms ≡ wanted → outside None high rest ≡ wanted
    others_left wanted so_far = ap (λ b. cond (not b) (m ∷ outside None high rest) (outside None high rest)) (sym below) ∙ ap (outside None high) (sym here) ∙ so_far

  pub rest_in_order : (m : Key × M) (ms rest : Messages M) → ms ≡ m ∷ rest → IsSorted ms → IsSorted rest
  rest_in_order m ms rest here sorted = (subst (IsSorted {X = M}) here sorted).1

  nothing_between : (high : Option Key) (ms : Messages M) → between None high ms ≡ [] → outside None high ms ≡ ms
  nothing_between high [] none = refl
  nothing_between high (m ∷ ms) none = elim (is_before_upper high m.0) as (λ b.
      cond b (m ∷ between None high ms) (between None high ms) ≡ [] → cond (not b) (m ∷ outside None high ms) (outside None high ms) ≡ m ∷ ms) [
        | true ↦ λ e. absurd (cc e)
        | false ↦ λ e. ap (λ zs. m ∷ zs) (nothing_between high ms e)
      ] none

  -- in the end all are taken
  pub all_taken : (high : Option Key) (ms taken wanted : Messages M) → between None high ms ≡ [] → taken ++ between None high ms ≡ wanted → taken ≡ wanted
  all_taken high ms taken wanted none so_far = sym (append-nil taken) ∙ ap (λ zs. taken ++ zs) (sym none) ∙ so_far

  pub all_left : (high : Option Key) (ms wanted : Messages M) → between None high ms ≡ [] → outside None high ms ≡ wanted → ms ≡ wanted
  all_left high ms wanted none so_far = sym (nothing_between high ms none) ∙ so_far

  -- ---- those up to a key

  pub one_past : (k : Key) (m : Key × M) (ms rest wanted : Messages M) → ms ≡ m ∷ rest → is_before k m.0 ≡ false → wanted ≡ messages_past k ms → wanted ≡ messages_past k rest
  one_past k m ms rest wanted here up so_far = so_far ∙ ap (messages_past k) here ∙ ap (λ b. cond b (m ∷ rest) (messages_past k rest)) up

  pub rest_from_key : (k : Key) (m : Key × M) (ms rest : Messages M) → ms ≡ m ∷ rest → AllFrom k ms → AllFrom k rest
  rest_from_key k m ms rest here all = (subst (AllFrom {X = M} k) here all).1

  pub past_in_order : (k : Key) (ms : Messages M) → IsSorted ms → IsSorted (messages_past k ms)
  past_in_order k [] sorted = tt
  past_in_order k (m ∷ ms) sorted = elim (is_before k m.0) as (λ b. IsSorted (cond b (m ∷ ms) (messages_past k ms))) [
    | true ↦ sorted
    | false ↦ past_in_order k ms sorted.1
  ]

  all_past : (k : Key) (ms : Messages M) → messages_up_to k ms ≡ [] → messages_past k ms ≡ ms
  all_past k [] none = refl
  all_past k (m ∷ ms) none = elim (is_before k m.0) as (λ b. cond b [] (m ∷ messages_up_to k ms) ≡ [] → cond b (m ∷ ms) (messages_past k ms) ≡ m ∷ ms) [
    | true ↦ λ e. refl
    | false ↦ λ e. absurd (cc e)
  ] none

  pub past_left : (k : Key) (ms wanted : Messages M) → messages_up_to k ms ≡ [] → wanted ≡ messages_past k ms → ms ≡ wanted
  past_left k ms wanted none so_far = sym (so_far ∙ all_past k ms none)

  -- ---- merged with older ones

  pub none_before_all : (k : Key) (ms : Messages M) → AllFrom k ms → (before k ms ≡ []) × (from k ms ≡ ms)
  none_before_all k [] all = (refl, refl)
  none_before_all k (m ∷ ms) all =
      let others = none_before_all k ms all.1 in (
        ap (λ b. cond b (m ∷ before k ms) (before k ms)) all.0 ∙ others.0,
        ap (λ b. cond (not b) (m ∷ from k ms) (from k ms)) all.0 ∙ ap (λ zs. m ∷ zs) others.1,
      )

  -- the messages past a key are among those from it on
  pub past_from : (k : Key) (ms : Messages M) → IsSorted ms → messages_past k (from k ms) ≡ messages_past k ms
  past_from k [] sorted = refl
  past_from k (m ∷ ms) sorted = elim (is_before m.0 k) as (λ b. is_before m.0 k ≡ b
      → messages_past k (cond (not b) (m ∷ from k ms) (from k ms)) ≡ cond (is_before k m.0) (m ∷ ms) (messages_past k ms)) [
        | true ↦ λ e. past_from k ms sorted.1 ∙ sym (ap (λ b. cond b (m ∷ ms) (messages_past k ms)) (not_after m.0 k e))
        | false ↦ λ e. ap (λ zs. messages_past k (m ∷ zs)) (none_before_all k ms (from_earlier k m.0 ms e sorted.0)).1
      ] refl

  -- the newer messages before the first older one, that one, and then the others
  merged_at : (o : Key × M) (os newer : Messages M) → IsSorted newer → with_messages newer (o ∷ os) ≡ before o.0 newer ++ o ∷ with_messages (from o.0 newer) os
  merged_at o os [] sorted = refl
  merged_at o os (n ∷ ns) sorted = elim (is_before n.0 o.0) as (λ b. is_before n.0 o.0 ≡ b →
      with_messages (n ∷ ns) (o ∷ os) ≡ cond b (n ∷ before o.0 ns) (before o.0 ns) ++ o ∷ with_messages (cond (not b) (n ∷ from o.0 ns) (from o.0 ns)) os) [
        | true ↦ λ e. newer_first n o ns os sorted.0 e ∙ ap (λ zs. n ∷ zs) (merged_at o os ns sorted.1)
        | false ↦ λ e.
            let later = from_earlier o.0 n.0 ns e sorted.0 in
            let none = none_before_all o.0 ns later in
            first_stays o (n ∷ ns) os (e, later) ∙ sym (ap (λ zs. zs ++ o ∷ with_messages (n ∷ from o.0 ns) os) none.0 ∙ ap (λ zs. o ∷ with_messages (n ∷ zs) os) none.1)
      ] refl

  -- the newer messages before an older one, and then that one, are moved to the merged ones
  pub record AreMoved (o : Key × M) (newer left start done : Messages M) : Type 0 where
    pub moved : Messages M
    pub moved_are : moved ≡ start ++ before o.0 newer
    pub left_are : left ≡ from o.0 newer
    pub pushed : done ≡ moved ++ o ∷ []

  pub merge_step : (o : Key × M) (os : Messages M) {older newer left start done wanted : Messages M} → older ≡ o ∷ os → IsSorted newer → start ++ with_messages newer older ≡ wanted →
      AreMoved o newer left start done → done ++ with_messages left os ≡ wanted
  merge_step o os {newer = newer} {left = left} {start = start} here sorted so_far move =
      ap (λ zs. zs ++ with_messages left os) move.pushed ∙ append_assoc move.moved (o ∷ []) (with_messages left os)
      ∙ ap (λ zs. zs ++ o ∷ with_messages left os) move.moved_are ∙ append_assoc start (before o.0 newer) (o ∷ with_messages left os)
      ∙ ap (λ zs. start ++ (before o.0 newer ++ o ∷ with_messages zs os)) move.left_are
      ∙ ap (λ zs. start ++ zs) (sym (merged_at o os newer sorted)) ∙ ap (λ zs. start ++ with_messages newer zs) (sym here) ∙ so_far

  pub merge_end : (older newer start wanted : Messages M) → older ≡ [] → IsSorted newer → start ++ with_messages newer older ≡ wanted → start ++ newer ≡ wanted
  merge_end older newer start wanted none sorted so_far =
      ap (λ zs. start ++ zs) (sym (alone newer sorted)) ∙ ap (λ zs. start ++ with_messages newer zs) (sym none) ∙ so_far

module _ {V M : Type 0} (effect : Option V → M → Option V) where
  -- a message at or before the key has its effect
  pub one_applied : (k : Key) (m : Key × M) (ms rest : Messages M) (value changed wanted : Option V) → ms ≡ m ∷ rest → is_before k m.0 ≡ false → AllFrom k ms → changed ≡ effect value m.1 →
      wanted ≡ value_after effect k ms value → wanted ≡ value_after effect k rest changed
  one_applied k m ms rest value changed wanted here up all is so_far =
      let low = (subst (AllFrom {X = M} k) here all).0 in
      so_far ∙ ap (λ zs. value_after effect k zs value) here
      ∙ ap (λ b. value_after effect k rest (cond b (effect value m.1) value)) (ties k m.0 (neither_before k m.0 up low))
      ∙ ap (value_after effect k rest) (sym is)

  -- at a larger key those up to this one have no effect
  pub value_past : (k j : Key) (ms : Messages M) (value : Option V) → is_before k j ≡ true → value_after effect j (messages_past k ms) value ≡ value_after effect j ms value
  value_past k j [] value later = refl
  value_past k j (m ∷ ms) value later = elim (is_before k m.0) as (λ b. is_before k m.0 ≡ b →
      value_after effect j (cond b (m ∷ ms) (messages_past k ms)) value ≡ value_after effect j ms (cond (eq_by_cmp key_cmp j m.0) (effect value m.1) value)) [
        | true ↦ λ e. refl
        | false ↦ λ e. value_past k j ms value later ∙ ap (λ b. value_after effect j ms (cond b (effect value m.1) value)) (sym (elsewhere e (eq_by_cmp key_cmp j m.0) refl))
      ] refl
    where
      elsewhere : is_before k m.0 ≡ false → (b : Bool) → eq_by_cmp key_cmp j m.0 ≡ b → eq_by_cmp key_cmp j m.0 ≡ false
      elsewhere up true is = absurd (true≢false (sym later ∙ ap (is_before k) (same_key j m.0 is) ∙ up))
      elsewhere up false is = is

  -- those past the key have no effect
  pub none_applied : (k : Key) (ms : Messages M) (value wanted : Option V) → messages_up_to k ms ≡ [] → IsSorted ms → wanted ≡ value_after effect k ms value → value ≡ wanted
  none_applied k [] value wanted none sorted so_far = sym so_far
  none_applied k (m ∷ ms) value wanted none sorted so_far = go (is_before k m.0) refl
    where
      go : (b : Bool) → is_before k m.0 ≡ b → value ≡ wanted
      go true e = sym (so_far ∙ value_before effect k m.0 (m ∷ ms) value e (not_before_itself m.0, sorted.0))
      go false e = absurd (cc (ap (λ b. cond b [] (m ∷ messages_up_to k ms)) (sym e) ∙ none))

-- what is left from a key on is sorted
pub rest_sorted_from : {M : Type 0} (k : Key) (ms rest : Messages M) → IsSorted ms → rest ≡ from k ms → IsSorted rest
rest_sorted_from {M} k ms rest sorted is = subst (IsSorted {X = M}) (sym is) (sorted-where (λ x. not (is_before x k)) ms sorted)

-- ---- found by binary search

module _ {R M : Type 0} (seen : R → Key × M) where
  -- the messages of a list in two parts
  pub in_parts : (first second items : List R) (ms : Messages M) → first ++ second ≡ items → map seen items ≡ ms → map seen first ++ map seen second ≡ ms
  in_parts first second items ms parts are = sym (map-append seen first second) ∙ ap (map seen) parts ∙ are

  -- the first of the messages that are left, and the others
  pub first_left : (items : List R) (i : ℕ) (r : R) → i < length items → r ≡ get_or items i r → map seen (drop i items) ≡ seen r ∷ map seen (drop (i + 1) items)
  first_left items i r within is = at_drop_more (map seen) items i r within ∙ ap (λ x. seen x ∷ map seen (drop (i + 1) items)) (sym is)

  none_earlier : (a : Key) (rs : List R) (j : ℕ) (d : R) → AllFrom a (map seen rs) → j < length rs → is_before (seen (get_or rs j d)).0 a ≡ false
  none_earlier a [] j d all within = absurd (omega (arith, within))
  none_earlier a (r ∷ rs) zero d all within = all.0
  none_earlier a (r ∷ rs) (suc j) d all within = none_earlier a rs j d all.1 (omega (arith, within))

  module _ (k : Key) where
    earlier_too : (a b : Key) (t : Bool) → is_before a k ≡ t → is_before b a ≡ false → is_before b k ≡ true → is_before a k ≡ true
    earlier_too a b true e later before = e
    earlier_too a b false e later before = absurd (true≢false (sym before ∙ later_chain k a b e later))

    -- the messages before a key come first
    pub halves : (rs : List R) → IsSorted (map seen rs) → IsPartitionedBy (λ r. is_before (seen r).0 k) rs
    halves [] sorted i j d up within e = absurd (omega (arith, within))
    halves (r ∷ rs) sorted zero zero d up within e = e
    halves (r ∷ rs) sorted zero (suc j) d up within e =
        earlier_too (seen r).0 (seen (get_or rs j d)).0 (is_before (seen r).0 k) refl (none_earlier (seen r).0 rs j d sorted.0 (omega (arith, within))) e
    halves (r ∷ rs) sorted (suc i) zero d up within e = absurd (omega (arith, up))
    halves (r ∷ rs) sorted (suc i) (suc j) d up within e = halves rs sorted.1 i j d (omega (arith, up)) (omega (arith, within)) e

    all_kept : (rs : List R) → ((j : ℕ) (d : R) → 0 ≤ j → j < length rs → is_before (seen (get_or rs j d)).0 k ≡ false) → map seen rs ≡ from k (map seen rs)
    all_kept [] later = refl
    all_kept (r ∷ rs) later =
        ap (λ zs. seen r ∷ zs) (all_kept rs (λ j d up within. later (suc j) d (omega arith) (omega (arith, within))))
        ∙ sym (ap (λ b. cond (not b) (seen r ∷ from k (map seen rs)) (from k (map seen rs))) (later 0 r (omega arith) (omega arith)))

    -- the messages from there on
    from_point : (rs : List R) (n : ℕ) → IsPartitionPoint (λ r. is_before (seen r).0 k ≡ true) (λ r. is_before (seen r).0 k ≡ false) rs n → map seen (drop n rs) ≡ from k (map seen rs)
    from_point rs zero point = all_kept rs point.1
    from_point [] (suc n) point = refl
    from_point (r ∷ rs) (suc n) point =
        from_point rs n ((λ j d up within. point.0 (suc j) d (omega arith) (omega (arith, within))), (λ j d up within. point.1 (suc j) d (omega (arith, up)) (omega (arith, within))))
        ∙ sym (ap (λ b. cond (not b) (seen r ∷ from k (map seen rs)) (from k (map seen rs))) (point.0 0 r (omega arith) (omega arith)))

    pub slice_from : (rs : List R) (n : ℕ) → IsPartitionPoint (λ r. is_before (seen r).0 k ≡ true) (λ r. is_before (seen r).0 k ≡ false) rs n
        → map seen (take (length rs - n) (drop n rs)) ≡ from k (map seen rs)
    slice_from rs n point = ap (map seen) (take_rest rs n) ∙ from_point rs n point
