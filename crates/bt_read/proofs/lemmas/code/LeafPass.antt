-- One pass over the rows of a leaf and the messages to it, key by key.
use Rattle.std.proofs.Common.{◌≡◌, ◌≤◌, suc, arith, length, true, false, not, cond, [], ◌∷◌, ◌++◌, ◌&&◌, fold, refl, sym, ap, subst, ◌∙◌, true≢false, option_to_list, option_map}
use Rattle.std.proofs.lemmas.Bool.{and_parts}
use Rattle.std.proofs.lemmas.List.Sums.{fold-append}
use Rattle.std.specs.Cmp.{tied_itself}
use Rattle.std.specs.Ordering.{is_eq, is_lt}
use Rattle.std.specs.FinMap.{find, is_sorted, nat_cmp-IsAntisymmetric, slice_cmp-IsAntisymmetric}
use Rattle.std.specs.FinMap.Entries.{below_all, by_order, put}
use Rattle.std.specs.declared.cmp.Ordering.{Ordering}
use Rattle.std.specs.declared.cmp.Ordering.TheVariants.{Less, Equal, Greater}
use Rattle.std.specs.declared.option.Option.{Option}
use Rattle.std.specs.declared.option.Option.TheVariants.{None, Some}
use Rattle.bt_keycode.specs.Keys.{AllFrom, IsSorted, Key, is_before, key_cmp}
use Rattle.bt_message.specs.Messages.{messages_past}
use Rattle.bt_form.specs.Messages.{Messages, Rows, before, between, from, rows_after, value_after, with_value}
use Rattle.bt_keycode.proofs.offered.Order.{is_less, neither_before, not_before_itself, total_keys}
use Rattle.bt_messages.proofs.offered.Rows.{value_before}
use Rattle.bt_read.proofs.lemmas.code.LentMessages.{ties}
use Rattle.bt_form.proofs.offered.code.RowPass.{above_first, before_of, first_kept, first_stays, first_taken, not_among, not_before_first, same_key_above, sorted_from, split_at}

itself : (k : Key) → key_cmp k k ≡ Equal
itself k = tied_itself total_keys k

module _ {V : Type 0} where
  -- the row of a key, if it has a value
  abbrev pub row_at : Key → Option V → Rows V
  row_at k value = option_to_list (option_map (λ v. (k, v)) value)

  -- with only a lower bound, these are the rows from it on
  pub from_is : (k : Key) (rs : Rows V) → between (Some k) None rs ≡ from k rs
  from_is k [] = refl
  from_is k (r ∷ rs) = elim (is_before r.0 k) as (λ b. cond (not b && true) (r ∷ between (Some k) None rs) (between (Some k) None rs) ≡ cond (not b) (r ∷ from k rs) (from k rs)) [
    | true ↦ from_is k rs
    | false ↦ ap (λ zs. r ∷ zs) (from_is k rs)
  ]

  -- rows from a key on: the one at the key, and the others
  from_parts : (k : Key) (rs : Rows V) → is_sorted key_cmp rs ≡ true → before k rs ≡ [] →
      (rs ≡ row_at k (find key_cmp k rs) ++ with_value k None rs) × (below_all key_cmp k (with_value k None rs) ≡ true)
  from_parts k [] sorted none = (refl, refl)
  from_parts k (r ∷ rs) sorted none = go (key_cmp r.0 k) refl
    where
      go : (o : Ordering) → key_cmp r.0 k ≡ o →
          (r ∷ rs ≡ row_at k (find key_cmp k (r ∷ rs)) ++ with_value k None (r ∷ rs)) × (below_all key_cmp k (with_value k None (r ∷ rs)) ≡ true)
      go Less e = absurd (true≢false (sym (ap is_lt e) ∙ not_before_first k r rs none))
      go Equal e =
          let taken = first_taken k r rs sorted e in (
            ap (λ j. (j, r.1) ∷ rs) (slice_cmp-IsAntisymmetric nat_cmp-IsAntisymmetric r.0 k e) ∙ ap (λ zs. (k, r.1) ∷ zs) taken.1 ∙ ap (λ v. row_at k v ++ with_value k None (r ∷ rs)) taken.0,
            ap (below_all key_cmp k) (sym taken.1) ∙ same_key_above k r rs sorted e,
          )
      go Greater e =
          let kept = first_kept k r rs sorted none (λ f. cc (e, f)) in (
            kept.1 ∙ ap (λ v. row_at k v ++ with_value k None (r ∷ rs)) kept.0,
            ap (below_all key_cmp k) (sym kept.1) ∙ above_first k r rs sorted none (λ f. cc (e, f)),
          )

  -- a row in front of the others is found, and is changed there
  front_found : (k : Key) (value : Option V) (others : Rows V) → below_all key_cmp k others ≡ true → find key_cmp k (row_at k value ++ others) ≡ value
  front_found k None others low = (not_among k others low).0
  front_found k (Some v) others low = ap (λ o. cond (is_eq o) (Some v) (find key_cmp k others)) (itself k)

  front_put : (k : Key) (v : V) (others : Rows V) → below_all key_cmp k others ≡ true → with_value k (Some v) others ≡ (k, v) ∷ others
  front_put k v [] low = refl
  front_put k v (r ∷ rs) low = ap (λ o. by_order o ((k, v) ∷ r ∷ rs) ((r.0, v) ∷ rs) (r ∷ put key_cmp k v rs)) (is_less _ (and_parts _ _ low).0)

  front_changed : (k : Key) (old new : Option V) (others : Rows V) → below_all key_cmp k others ≡ true → with_value k new (row_at k old ++ others) ≡ row_at k new ++ others
  front_changed k None None others low = (not_among k others low).1
  front_changed k None (Some v) others low = front_put k v others low
  front_changed k (Some u) None others low =
      ap (λ o. cond (not (is_eq o)) ((k, u) ∷ with_value k None others) (with_value k None others)) (itself k) ∙ (not_among k others low).1
  front_changed k (Some u) (Some v) others low = ap (λ o. by_order o ((k, v) ∷ (k, u) ∷ others) ((k, v) ∷ others) ((k, u) ∷ put key_cmp k v others)) (itself k)

module _ {V M : Type 0} (effect : Option V → M → Option V) where
  -- messages to larger keys leave the row in front
  front_stays : (k : Key) (m : Key × M) (ms : Messages M) (value : Option V) (others : Rows V) → is_before k m.0 ≡ true → IsSorted (m ∷ ms) →
      rows_after effect (m ∷ ms) (row_at k value ++ others) ≡ row_at k (value_after effect k (m ∷ ms) value) ++ rows_after effect (m ∷ ms) others
  front_stays k m ms value others later sorted =
      let all : AllFrom m.0 (m ∷ ms) = (not_before_itself m.0, sorted.0) in
      stays value all ∙ ap (λ v. row_at k v ++ rows_after effect (m ∷ ms) others) (sym (value_before effect k m.0 (m ∷ ms) value later all))
    where
      stays : (v : Option V) → AllFrom m.0 (m ∷ ms) → rows_after effect (m ∷ ms) (row_at k v ++ others) ≡ row_at k v ++ rows_after effect (m ∷ ms) others
      stays None all = refl
      stays (Some v) all = first_stays effect m.0 (k, v) (m ∷ ms) others later all

  -- the row in front after messages at or past its key
  in_front : (k : Key) (ms : Messages M) (value : Option V) (others : Rows V) → IsSorted ms → AllFrom k ms → below_all key_cmp k others ≡ true →
      rows_after effect ms (row_at k value ++ others) ≡ row_at k (value_after effect k ms value) ++ rows_after effect (messages_past k ms) others
  in_front k [] value others sorted all low = refl
  in_front k (m ∷ ms) value others sorted all low = elim (is_before k m.0) as (λ b. is_before k m.0 ≡ b →
      rows_after effect (m ∷ ms) (row_at k value ++ others) ≡ row_at k (value_after effect k (m ∷ ms) value) ++ rows_after effect (cond b (m ∷ ms) (messages_past k ms)) others) [
        | true ↦ λ e. front_stays k m ms value others e sorted
        | false ↦ λ e.
            let same : m.0 ≡ k = sym (neither_before k m.0 e all.0) in
            ap (λ j. rows_after effect ms (with_value j (effect (find key_cmp j (row_at k value ++ others)) m.1) (row_at k value ++ others))) same
            ∙ ap (λ o. rows_after effect ms (with_value k (effect o m.1) (row_at k value ++ others))) (front_found k value others low)
            ∙ ap (rows_after effect ms) (front_changed k value (effect value m.1) others low)
            ∙ in_front k ms (effect value m.1) others sorted.1 all.1 low
            ∙ ap (λ b. row_at k (value_after effect k ms (cond b (effect value m.1) value)) ++ rows_after effect (messages_past k ms) others) (sym (ties k m.0 (sym same)))
      ] refl

  -- the rows before the key of the first message, the row there after its messages, and then the others
  pub pass_at : (m : Key × M) (ms : Messages M) (rs : Rows V) → IsSorted (m ∷ ms) → is_sorted key_cmp rs ≡ true →
      rows_after effect (m ∷ ms) rs ≡ before m.0 rs
      ++ (row_at m.0 (value_after effect m.0 ms (effect (find key_cmp m.0 (from m.0 rs)) m.1)) ++ rows_after effect (messages_past m.0 ms) (with_value m.0 None (from m.0 rs)))
  pass_at m ms rs sorted rising =
      let later = from m.0 rs in
      let parts = from_parts m.0 later (sorted_from m.0 rs rising) (before_of m.0 rs later refl) in
      let all : AllFrom m.0 (m ∷ ms) = (not_before_itself m.0, sorted.0) in
      let old = find key_cmp m.0 later in
      split_at effect m.0 (m ∷ ms) rs all rising
      ∙ ap (λ zs. before m.0 rs ++ zs)
      (ap (rows_after effect (m ∷ ms)) parts.0
      ∙ in_front m.0 (m ∷ ms) old (with_value m.0 None later) sorted all parts.1
      ∙ ap (λ b. row_at m.0 (value_after effect m.0 ms (cond b (effect old m.1) old)) ++ rows_after effect (messages_past m.0 (m ∷ ms)) (with_value m.0 None later)) (ties m.0 m.0 refl)
      ∙ ap (λ b. row_at m.0 (value_after effect m.0 ms (effect old m.1)) ++ rows_after effect (cond b (m ∷ ms) (messages_past m.0 ms)) (with_value m.0 None later)) (not_before_itself m.0))

  -- the rows before the key of the first message were shown
  pub record AreShown {S : Type 0} (visited : S → Key × V → S) (m : Key × M) (ms messages : Messages M) (rs : Rows V) (shown wanted : S) : Type 0 where
    pub start : S
    pub earlier : Rows V
    pub messages_are : messages ≡ m ∷ ms
    pub sorted : IsSorted messages
    pub rising : is_sorted key_cmp rs ≡ true
    pub so_far : wanted ≡ fold visited start (rows_after effect messages rs)
    pub earlier_are : earlier ≡ before m.0 rs
    pub shown_is : shown ≡ fold visited start earlier

  -- the row of that key, with its value after the messages to it, is shown after them
  pub record IsShown {S : Type 0} (visited : S → Key × V → S) (m : Key × M) (ms left_messages : Messages M) (rs others : Rows V) (before_it shown : S) : Type 0 where
    pub later : Rows V
    pub old : Option V
    pub first : Option V
    pub value : Option V
    pub later_are : later ≡ from m.0 rs
    pub old_is : old ≡ find key_cmp m.0 later
    pub others_are : others ≡ with_value m.0 None later
    pub first_is : first ≡ effect old m.1
    pub value_is : value ≡ value_after effect m.0 ms first
    pub left_are : left_messages ≡ messages_past m.0 ms
    pub shown_is : shown ≡ fold visited before_it (row_at m.0 value)

  module _ {S : Type 0} {visited : S → Key × V → S} {m : Key × M} {ms messages : Messages M} {rs : Rows V} {shown wanted : S} (done : AreShown visited m ms messages rs shown wanted) where
    -- the rows after the messages, from the key of the first message on
    abbrev from_first : Rows V
    from_first = row_at m.0 (value_after effect m.0 ms (effect (find key_cmp m.0 (from m.0 rs)) m.1)) ++ rows_after effect (messages_past m.0 ms) (with_value m.0 None (from m.0 rs))

    -- these are still to be shown
    past_first : wanted ≡ fold visited shown from_first
    past_first =
        done.so_far ∙ ap (λ zs. fold visited done.start (rows_after effect zs rs)) done.messages_are
        ∙ ap (fold visited done.start) (pass_at m ms rs (subst (IsSorted {X = M}) done.messages_are done.sorted) done.rising)
        ∙ ap (λ zs. fold visited done.start (zs ++ from_first)) (sym done.earlier_are)
        ∙ fold-append visited done.start done.earlier from_first
        ∙ ap (λ s. fold visited s from_first) (sym done.shown_is)

    -- the end of the pass if nothing more is shown
    pub shown_end : ((rows : Rows V) → fold visited shown rows ≡ shown) → shown ≡ wanted
    shown_end none = sym (past_first ∙ none from_first)

    -- a step of the pass, by what was shown
    pub shown_step : {left_messages : Messages M} {others : Rows V} {after : S} → IsShown visited m ms left_messages rs others shown after →
        wanted ≡ fold visited after (rows_after effect left_messages others)
    shown_step {left_messages} {others} row =
        let old_is : row.old ≡ find key_cmp m.0 (from m.0 rs) = row.old_is ∙ ap (find key_cmp m.0) row.later_are in
        let value_is : row.value ≡ value_after effect m.0 ms (effect (find key_cmp m.0 (from m.0 rs)) m.1) =
        row.value_is ∙ ap (value_after effect m.0 ms) (row.first_is ∙ ap (λ o. effect o m.1) old_is) in
        let others_are : others ≡ with_value m.0 None (from m.0 rs) = row.others_are ∙ ap (with_value m.0 None) row.later_are in
        let rest = rows_after effect left_messages others in
        past_first
        ∙ ap (λ zs. fold visited shown (row_at m.0 (value_after effect m.0 ms (effect (find key_cmp m.0 (from m.0 rs)) m.1)) ++ rows_after effect zs
        (with_value m.0 None (from m.0 rs)))) (sym row.left_are)
        ∙ ap (λ zs. fold visited shown (row_at m.0 (value_after effect m.0 ms (effect (find key_cmp m.0 (from m.0 rs)) m.1)) ++ rows_after effect left_messages zs)) (sym others_are)
        ∙ ap (λ v. fold visited shown (row_at m.0 v ++ rest)) (sym value_is)
        ∙ fold-append visited shown (row_at m.0 row.value) rest
        ∙ ap (λ s. fold visited s rest) (sym row.shown_is)

-- no more messages are past a key than there are
pub fewer_past : {M : Type 0} (k : Key) (ms : Messages M) → length (messages_past k ms) ≤ length ms
fewer_past k [] = omega arith
fewer_past k (m ∷ ms) = elim (is_before k m.0) as (λ b. length (cond b (m ∷ ms) (messages_past k ms)) ≤ suc (length ms)) [
  | true ↦ omega arith
  | false ↦ omega (arith, fewer_past k ms)
]
