-- The keys of sorted messages and their effects, one key at a time.
use Rattle.std.proofs.Common.{◌≡◌, ℕ, suc, ◌<◌, ◌≤◌, Bool, true, false, cond, not, T, List, [], ◌∷◌, ◌++◌, append-nil, append_assoc}
use Rattle.std.proofs.Common.{drop, length, map, refl, sym, ap, subst, ◌∙◌, Option, if◌then◌else◌, true≢false, arith}
use Rattle.std.proofs.lemmas.List.{map-append}
use Rattle.std.proofs.lemmas.Simd.{map-map}
use Rattle.std.specs.List.{filter}
use Rattle.std.specs.Ordering.{eq_by_cmp}
use Rattle.std.specs.Cmp.{tied_itself}
use Rattle.std.specs.FinMap.{find, put}
use Rattle.std.specs.FinMap.Entries.{below_all, by_order, is_sorted}
use Rattle.bt_value.specs.declared.value.Value.{Value}
use Rattle.bt_message.specs.Effects.{Rows, rows_after, value_after}
use Rattle.bt_keycode.specs.Keys.{AllFrom, IsSorted, is_before, key_cmp}
use Rattle.bt_message.specs.Messages.{Messages}
use Rattle.bt_keycode.proofs.offered.Order.{apart as apart_keys, before_later, is_less, neither_before, not_before_itself, same_key, total_keys}
use Rattle.bt_keycode.proofs.offered.Truths.{t_first, t_second, true_t}
use Rattle.bt_messages.proofs.offered.Rows.{find-rows_after, value_before}
use Rattle.bt_fanout.specs.Covers.{is_covered}
use Rattle.bt_fanout.specs.Effects.{RowMessage, effects_at, effects_of, row_effect}
use Rattle.bt_fanout.specs.inside.Groups.{after_group, group_count, groups, groups_within, value_after_first, with_key}
use Rattle.bt_fanout.specs.Selections.{named}
use Rattle.bt_fanout.specs.declared.cover.Cover.{Cover}
use Rattle.bt_fanout.specs.declared.cover.Cover.TheVariants.{Nothing, UpTo, Whole}
use Rattle.bt_fanout.specs.declared.effect.Effect.{Effect}
use Rattle.bt_fanout.proofs.Lookups.{equal_itself}
use Rattle.bt_fanout.proofs.offered.Packets.{sorted-named}
use Rattle.bt_fanout.proofs.Sendings.{turned}

-- two keys that are not equal and not in descending order are in ascending order
goes_before : (j k : List ℕ) → eq_by_cmp key_cmp j k ≡ false → is_before k j ≡ false → is_before j k ≡ true
goes_before j k e h = elim (is_before j k) as (λ b. is_before j k ≡ b → b ≡ true) [
  | true ↦ λ b. refl
  | false ↦ λ b. absurd (true≢false (sym (equal_itself j) ∙ ap (eq_by_cmp key_cmp j) (neither_before j k b h) ∙ e))
] refl

-- a value after the first messages, as far as these are to one key
abbrev pub value_of_group : {V M : Type 0} → (Option V → M → Option V) → List ℕ → Messages M → Option V → Option V
value_of_group effect k [] old = old
value_of_group effect k (m ∷ ms) old = if eq_by_cmp key_cmp k m.0 then value_of_group effect k ms (effect old m.1) else old

module _ {M : Type 0} where
  pub sorted-following : (k : List ℕ) (ms : Messages M) → IsSorted ms → IsSorted (after_group k ms)
  sorted-following k [] h = tt
  sorted-following k (m ∷ ms) h = elim (eq_by_cmp key_cmp k m.0) as (λ b. IsSorted (if b then after_group k ms else m ∷ ms)) [
    | true ↦ sorted-following k ms h.1
    | false ↦ h
  ]

  pub length-following : (k : List ℕ) (ms : Messages M) → length (after_group k ms) ≤ length ms
  length-following k [] = omega arith
  length-following k (m ∷ ms) = elim (eq_by_cmp key_cmp k m.0) as (λ b. length (if b then after_group k ms else m ∷ ms) ≤ length (m ∷ ms)) [
    | true ↦ let fewer = length-following k ms in omega arith
    | false ↦ omega arith
  ]

  -- sorted messages name the key of their first group, and then those of the others
  named-group : (k : List ℕ) (ms : Messages M) → AllFrom k ms → IsSorted ms → put key_cmp k tt (named ms) ≡ (k, tt) ∷ named (after_group k ms)
  named-group k [] a h = refl
  named-group k (m ∷ ms) a h =
      let first : named (m ∷ ms) ≡ (m.0, tt) ∷ named (after_group m.0 ms) = named-group m.0 ms h.0 h.1 in
      elim (eq_by_cmp key_cmp k m.0) as (λ b. eq_by_cmp key_cmp k m.0 ≡ b → put key_cmp k tt (named (m ∷ ms)) ≡ (k, tt) ∷ named (if b then after_group k ms else m ∷ ms)) [
        | true ↦ λ b.
            subst (λ j. put key_cmp j tt (named (m ∷ ms)) ≡ (j, tt) ∷ named (after_group j ms)) (sym (same_key k m.0 b))
            (ap (put key_cmp m.0 tt) first
            ∙ ap (λ o. by_order o ((m.0, tt) ∷ (m.0, tt) ∷ named (after_group m.0 ms)) ((m.0, tt) ∷ named (after_group m.0 ms))
            ((m.0, tt) ∷ put key_cmp m.0 tt (named (after_group m.0 ms)))) (tied_itself total_keys m.0))
        | false ↦ λ b.
            let less = is_less (key_cmp k m.0) (goes_before k m.0 b a.0) in
            ap (put key_cmp k tt) first
            ∙ ap (λ o. by_order o ((k, tt) ∷ (m.0, tt) ∷ named (after_group m.0 ms)) ((m.0, tt) ∷ named (after_group m.0 ms)) ((m.0, tt) ∷ put key_cmp k tt (named (after_group m.0 ms)))) less
            ∙ ap (λ ks. (k, tt) ∷ ks) (sym first)
      ] refl

  module _ {V : Type 0} (effect : Option V → M → Option V) where
    -- the first group decides the value of its key
    group-value : (k : List ℕ) (ms : Messages M) (o : Option V) → AllFrom k ms → IsSorted ms → value_after effect k ms o ≡ value_of_group effect k ms o
    group-value k [] o a h = refl
    group-value k (m ∷ ms) o a h = elim (eq_by_cmp key_cmp k m.0) as (λ b. eq_by_cmp key_cmp k m.0 ≡ b →
        value_after effect k ms (cond b (effect o m.1) o) ≡ (if b then value_of_group effect k ms (effect o m.1) else o)) [
          | true ↦ λ b. group-value k ms (effect o m.1) a.1 h.1
          | false ↦ λ b. value_before effect k m.0 ms o (goes_before k m.0 b a.0) h.0
        ] refl

    -- and no other
    following-value : (j k : List ℕ) (ms : Messages M) (o : Option V) → eq_by_cmp key_cmp k j ≡ false → value_after effect k ms o ≡ value_after effect k (after_group j ms) o
    following-value j k [] o e = refl
    following-value j k (m ∷ ms) o e = elim (eq_by_cmp key_cmp j m.0) as (λ b. eq_by_cmp key_cmp j m.0 ≡ b →
        value_after effect k (m ∷ ms) o ≡ value_after effect k (if b then after_group j ms else m ∷ ms) o) [
          | true ↦ λ b.
              ap (λ t. value_after effect k ms (cond t (effect o m.1) o)) (ap (eq_by_cmp key_cmp k) (sym (same_key j m.0 b)) ∙ e) ∙ following-value j k ms o e
          | false ↦ λ b. refl
        ] refl

effects_at-alike : (f g h : List ℕ → Option (List Value)) (j : List ℕ) (ks : Rows (Unit {0})) → T (below_all key_cmp j ks)
    → ((k : List ℕ) → is_before j k ≡ true → g k ≡ h k) → effects_at f g ks ≡ effects_at f h ks
effects_at-alike f g h j [] b same = refl
effects_at-alike f g h j (k ∷ ks) b same =
    let here : g k.0 ≡ h k.0 = same k.0 (true_t _ (t_first _ _ b)) in
    let first : Option (List Value) → Effect = λ a. record { key = k.0; before = f k.0; after = a } in
    ap (λ a. first a ∷ effects_at f g ks) here ∙ ap (λ es. first (h k.0) ∷ es) (effects_at-alike f g h j ks (t_second _ _ b) same)

-- the first group's key is before those of the others
pub past-named : {M : Type 0} (m : List ℕ × M) (ms : Messages M) → IsSorted (m ∷ ms) → T (below_all key_cmp m.0 (named (after_group m.0 ms)))
past-named m ms h = t_first _ _ (subst (λ ks. T (is_sorted key_cmp ks)) (named-group m.0 ms h.0 h.1) (sorted-named (m ∷ ms)))

-- the effects of sorted messages: that of the first group, and those of the others
pub effects-group : (m : List ℕ × RowMessage) (ms : Messages RowMessage) (rows : Rows (List Value)) → IsSorted (m ∷ ms) →
    effects_of (m ∷ ms) rows
    ≡ record { key = m.0; before = find key_cmp m.0 rows; after = value_of_group row_effect m.0 ms (row_effect (find key_cmp m.0 rows) m.1) } ∷ effects_of (after_group m.0 ms) rows
effects-group m ms rows h =
    let past = after_group m.0 ms in
    let f : List ℕ → Option (List Value) = λ k. find key_cmp k rows in
    let g : List ℕ → Option (List Value) = λ k. find key_cmp k (rows_after row_effect (m ∷ ms) rows) in
    let g2 : List ℕ → Option (List Value) = λ k. find key_cmp k (rows_after row_effect past rows) in
    let names : named (m ∷ ms) ≡ (m.0, tt) ∷ named past = named-group m.0 ms h.0 h.1 in
    let value : g m.0 ≡ value_of_group row_effect m.0 ms (row_effect (f m.0) m.1) =
    find-rows_after row_effect m.0 (m ∷ ms) rows ∙ ap (λ t. value_after row_effect m.0 ms (cond t (row_effect (f m.0) m.1) (f m.0))) (equal_itself m.0)
    ∙ group-value row_effect m.0 ms (row_effect (f m.0) m.1) h.0 h.1 in
    let first : Option (List Value) → Effect = λ a. record { key = m.0; before = f m.0; after = a } in
    ap (effects_at f g) names ∙ ap (λ a. first a ∷ effects_at f g (named past)) value
    ∙ ap (λ es. first (value_of_group row_effect m.0 ms (row_effect (f m.0) m.1)) ∷ es)
    (effects_at-alike f g g2 m.0 (named past) (past-named m ms h)
    (λ k before.
    let other = turned m.0 k (apart_keys m.0 k k before (not_before_itself k)) in
    find-rows_after row_effect k (m ∷ ms) rows ∙ ap (λ t. value_after row_effect k ms (cond t (row_effect (f k) m.1) (f k))) other
    ∙ following-value row_effect m.0 k ms (f k) other ∙ sym (find-rows_after row_effect k past rows)))

-- fewer groups are left
pub fewer_left : {M : Type 0} (m : List ℕ × M) (ms left later : Messages M) → left ≡ m ∷ ms → later ≡ after_group m.0 ms → length later < length left
fewer_left m ms left later is following =
    let shorter = length-following m.0 ms in
    omega (arith, ap length is, ap length following, shorter)

-- ---- covers

-- after a key that isn't covered no key is
pub uncovered_from : (cover : Cover) (k j : List ℕ) → is_before j k ≡ false → is_covered cover k ≡ false → is_covered cover j ≡ false
uncovered_from Nothing k j from none = refl
uncovered_from (UpTo last) k j from none = elim (is_before last k) as (λ b. is_before last k ≡ b → not b ≡ false → not (is_before last j) ≡ false) [
  | true ↦ λ b n. ap not (before_later last k j b from)
  | false ↦ λ b n. absurd (true≢false n)
] refl none
uncovered_from Whole k j from none = absurd (true≢false none)

others_none : {A : Type 0} (b : Bool) (x : A) (xs : List A) → cond b (x ∷ xs) xs ≡ [] → xs ≡ []
others_none true x xs e = cc
others_none false x xs e = e

module _ (cover : Cover) where
  abbrev within : List (List ℕ × ℕ) → List (List ℕ × ℕ)
  within gs = filter (λ g. is_covered cover g.0) gs

  none_first : (k : List ℕ) (gs : List (List ℕ × ℕ)) → is_covered cover k ≡ false → within gs ≡ [] → within (with_key k gs) ≡ []
  none_first k [] none e = ap (λ b. cond b ((k, 0) ∷ []) []) none
  none_first k (g ∷ gs) none e = elim (eq_by_cmp key_cmp k g.0) as (λ b. within (if b then (k, suc g.1) ∷ gs else (k, 0) ∷ g ∷ gs) ≡ []) [
    | true ↦ ap (λ b. cond b ((k, suc g.1) ∷ within gs) (within gs)) none ∙ others_none (is_covered cover g.0) g (within gs) e
    | false ↦ ap (λ b. cond b ((k, 0) ∷ within (g ∷ gs)) (within (g ∷ gs))) none ∙ e
  ]

  -- messages from such a key on have no key that is covered
  pub none_within : {M : Type 0} (k : List ℕ) (ms : Messages M) → AllFrom k ms → is_covered cover k ≡ false → groups_within cover ms ≡ []
  none_within k [] from none = refl
  none_within k (m ∷ ms) from none = none_first m.0 (groups ms) (uncovered_from cover k m.0 from.0 none) (none_within k ms from.1 none)

  none_covered : {M : Type 0} (m : List ℕ × M) (ms left : Messages M) → left ≡ m ∷ ms → IsSorted left → is_covered cover m.0 ≡ false → groups_within cover left ≡ []
  none_covered m ms left is sorted none =
      ap (groups_within cover) is ∙ none_within m.0 (m ∷ ms) (not_before_itself m.0, (subst IsSorted is sorted).0) none

-- ---- groups

module _ {M : Type 0} where
  -- the first group, and the others
  groups-group : (m : List ℕ × M) (ms : Messages M) → groups (m ∷ ms) ≡ (m.0, group_count m.0 ms) ∷ groups (after_group m.0 ms)
  groups-group m [] = refl
  groups-group m (n ∷ ms) =
      ap (with_key m.0) (groups-group n ms) ∙ elim (eq_by_cmp key_cmp m.0 n.0) as (λ b. eq_by_cmp key_cmp m.0 n.0 ≡ b →
      (if b then (m.0, suc (group_count n.0 ms)) ∷ groups (after_group n.0 ms) else (m.0, 0) ∷ (n.0, group_count n.0 ms) ∷ groups (after_group n.0 ms))
      ≡ (m.0, if b then suc (group_count m.0 ms) else 0) ∷ groups (if b then after_group m.0 ms else n ∷ ms)) [
        | true ↦ λ b. ap (λ k. (m.0, suc (group_count k ms)) ∷ groups (after_group k ms)) (sym (same_key m.0 n.0 b))
        | false ↦ λ b. ap (λ gs. (m.0, 0) ∷ gs) (sym (groups-group n ms))
      ] refl

  pub within-group : (cover : Cover) (m : List ℕ × M) (ms : Messages M) → is_covered cover m.0 ≡ true →
      groups_within cover (m ∷ ms) ≡ (m.0, group_count m.0 ms) ∷ groups_within cover (after_group m.0 ms)
  within-group cover m ms is =
      ap (filter (λ g. is_covered cover g.0)) (groups-group m ms)
      ∙ ap (λ b. cond b ((m.0, group_count m.0 ms) ∷ groups_within cover (after_group m.0 ms)) (groups_within cover (after_group m.0 ms))) is

  pub drop-count : (k : List ℕ) (ms : Messages M) → drop (group_count k ms) ms ≡ after_group k ms
  drop-count k [] = refl
  drop-count k (m ∷ ms) = elim (eq_by_cmp key_cmp k m.0) as (λ b. drop (if b then suc (group_count k ms) else 0) (m ∷ ms) ≡ (if b then after_group k ms else m ∷ ms)) [
    | true ↦ drop-count k ms
    | false ↦ refl
  ]

  pub after-count : {V : Type 0} (effect : Option V → M → Option V) (k : List ℕ) (ms : Messages M) (old : Option V) →
      value_after_first effect (group_count k ms) ms old ≡ value_of_group effect k ms old
  after-count effect k [] old = refl
  after-count effect k (m ∷ ms) old = elim (eq_by_cmp key_cmp k m.0) as (λ b.
      value_after_first effect (if b then suc (group_count k ms) else 0) (m ∷ ms) old ≡ (if b then value_of_group effect k ms (effect old m.1) else old)) [
        | true ↦ after-count effect k ms (effect old m.1)
        | false ↦ refl
      ]

  -- fewer messages are left
  pub next_value : {V : Type 0} (effect : Option V → M → Option V) (n k : ℕ) (m : List ℕ × M) (ms left : Messages M) (old after : Option V) → left ≡ m ∷ ms → n ≡ suc k → after ≡ effect old m.1 →
      value_after_first effect n left old ≡ value_after_first effect k ms after
  next_value effect n k m ms left old after is count value =
      ap (λ zs. value_after_first effect n zs old) is ∙ ap (λ i. value_after_first effect i (m ∷ ms) old) count ∙ ap (value_after_first effect k ms) (sym value)

  pub fewer_after : (n k : ℕ) (m : List ℕ × M) (ms left : Messages M) → left ≡ m ∷ ms → n ≡ suc k → drop n left ≡ drop k ms
  fewer_after n k m ms left is count = ap (drop n) is ∙ ap (λ i. drop i (m ∷ ms)) count

-- ---- the keys, one after the other

moved : {A : Type 0} (whole old new rest : List A) (x : A) → whole ≡ old ++ x ∷ rest → new ≡ old ++ x ∷ [] → whole ≡ new ++ rest
moved whole old new rest x is more = is ∙ sym (append_assoc old (x ∷ []) rest) ∙ ap (λ xs. xs ++ rest) (sym more)

-- none are left
none_left : {A B : Type 0} (f : A → B) (whole old : List B) (left : List A) → left ≡ [] → whole ≡ old ++ map f left → old ≡ whole
none_left f whole old left none is = sym (is ∙ ap (λ xs. old ++ map f xs) none ∙ append-nil old)

-- and if the next key isn't covered
pub none_left_covered : {M B : Type 0} (f : List ℕ × ℕ → B) (cover : Cover) (m : List ℕ × M) (ms left : Messages M) (whole old : List B) → left ≡ m ∷ ms
    → IsSorted left → is_covered cover m.0 ≡ false →
    whole ≡ old ++ map f (groups_within cover left) → old ≡ whole
none_left_covered f cover m ms left whole old is sorted none are = none_left f whole old (groups_within cover left) (none_covered cover m ms left is sorted none) are

-- the next key of a packet, which a cover covers, and how many messages it has after its first one
pub record IsNextKey {M K : Type 0} (seen : K → List ℕ) (cover : Cover) (left later : Messages M) (key : K) (count : ℕ) : Type 0 where
  pub message : List ℕ × M
  pub rest : Messages M
  pub left_is : left ≡ message ∷ rest
  pub sorted : IsSorted left
  pub key_is : seen key ≡ message.0
  pub covered : is_covered cover message.0 ≡ true
  pub count_is : count ≡ group_count message.0 rest
  pub later_is : later ≡ after_group message.0 rest

-- one more key
pub one_key : {M K : Type 0} (seen : K → List ℕ) (cover : Cover) (keys new_keys : List K) (others new_others : List ℕ) (whole : List (List ℕ × ℕ))
    {left later : Messages M} {key : K} {count : ℕ} → IsNextKey seen cover left later key count →
    map (λ g. g.0) whole ≡ map seen keys ++ map (λ g. g.0) (groups_within cover left) → map (λ g. g.1) whole ≡ others ++ map (λ g. g.1) (groups_within cover left) →
    new_keys ≡ keys ++ key ∷ [] → new_others ≡ others ++ count ∷ [] →
    IsSorted later × ((map (λ g. g.0) whole ≡ map seen new_keys ++ map (λ g. g.0) (groups_within cover later)) × (map (λ g. g.1) whole ≡ new_others ++ map (λ g. g.1) (groups_within cover later)))
one_key seen cover keys new_keys others new_others whole {left} {later} {key} {count} next so also more_keys more_others =
    let m = next.message in
    let ms = next.rest in
    let order : IsSorted (m ∷ ms) = subst IsSorted next.left_is next.sorted in
    let first : groups_within cover left ≡ (seen key, count) ∷ groups_within cover later =
    ap (groups_within cover) next.left_is ∙ within-group cover m ms next.covered ∙ ap (λ k. (k, group_count m.0 ms) ∷ groups_within cover (after_group m.0 ms)) (sym next.key_is)
    ∙ ap (λ n. (seen key, n) ∷ groups_within cover (after_group m.0 ms)) (sym next.count_is) ∙ ap (λ zs. (seen key, count) ∷ groups_within cover zs) (sym next.later_is) in (
      subst IsSorted (sym next.later_is) (sorted-following m.0 ms order.1),
      (
        moved _ _ _ _ (seen key) (so ∙ ap (λ gs. map seen keys ++ map (λ g. g.0) gs) first) (ap (map seen) more_keys ∙ map-append seen keys (key ∷ [])),
        moved _ _ _ _ count (also ∙ ap (λ gs. others ++ map (λ g. g.1) gs) first) more_others,
      ),
    )

-- what the same keys have
pub same_found : {K L V : Type 0} (f : List ℕ → V) (seen : K → List ℕ) (named_as : L → List ℕ) (keys : List K) (ks : List L) → map seen keys ≡ map named_as ks
    → map (λ k. f (seen k)) keys ≡ map (λ k. f (named_as k)) ks
same_found f seen named_as keys ks is = sym (map-map f seen keys) ∙ ap (map f) is ∙ map-map f named_as ks
