-- Sorted messages cut at keys, for `take_range` and `iter_from`.
use Rattle.std.proofs.Common.{◌≡◌, ℕ, zero, suc, ◌<◌, ◌≤◌, Bool, true, false, not, ◌&&◌, cond, List, [], ◌∷◌, ◌++◌, ◌-◌, length}
use Rattle.std.proofs.Common.{take, drop, get_or, Option, Some, None, refl, sym, ap, subst, ◌∙◌, true≢false, arith}
use Rattle.std.proofs.Math.Seq.{drop-length, take-length}
use Rattle.std.proofs.lemmas.List.{take_rest}
use Rattle.std.proofs.lemmas.List.Filters.{length-filter_both}
use Rattle.std.specs.List.{filter}
use Rattle.std.specs.List.Sorted.{IsPartitionedBy}
use Rattle.std.specs.Option.{MatchOption}
use Rattle.bt_keycode.specs.Keys.{AllFrom, IsSorted, is_before, is_before_lower, is_before_upper, is_between}
use Rattle.bt_message.specs.Messages.{Messages, messages_before, messages_between, messages_from, messages_outside, with_messages}
use Rattle.bt_keycode.proofs.offered.Order.{from_earlier, later_chain, not_after, not_before_itself}
use Rattle.bt_messages.proofs.offered.Placed.{first_stays}

module _ {M : Type 0} where
  -- ---- a search for a key

  pub from_first : (k : List ℕ) (ms : Messages M) (j : ℕ) (d : List ℕ × M) → AllFrom k ms → j < length ms → is_before (get_or ms j d).0 k ≡ false
  from_first k [] j d h l = absurd (omega arith)
  from_first k (m ∷ ms) zero d h l = h.0
  from_first k (m ∷ ms) (suc j) d h l = from_first k ms j d h.1 (omega arith)

  pub in_order : (ms : Messages M) (i j : ℕ) (d : List ℕ × M) → IsSorted ms → i ≤ j → j < length ms → is_before (get_or ms j d).0 (get_or ms i d).0 ≡ false
  in_order [] i j d h l n = absurd (omega arith)
  in_order (m ∷ ms) zero zero d h l n = not_before_itself m.0
  in_order (m ∷ ms) zero (suc j) d h l n = from_first m.0 ms j d h.0 (omega arith)
  in_order (m ∷ ms) (suc i) zero d h l n = absurd (omega arith)
  in_order (m ∷ ms) (suc i) (suc j) d h l n = in_order ms i j d h.1 (omega arith) (omega arith)

  -- the messages with a key before this one come first
  pub parted : (k : List ℕ) (ms : Messages M) → IsSorted ms → IsPartitionedBy (λ m. is_before m.0 k) ms
  parted k ms h i j d l n e = go (is_before (get_or ms i d).0 k) refl
    where
      go : (t : Bool) → is_before (get_or ms i d).0 k ≡ t → is_before (get_or ms i d).0 k ≡ true
      go true f = f
      go false f = absurd (true≢false (sym e ∙ later_chain k (get_or ms i d).0 (get_or ms j d).0 f (in_order ms i j d h l n)))

module _ {X : Type 0} (p : X → Bool) where
  none_passes : (xs : List X) → ((j : ℕ) (d : X) → 0 ≤ j → j < length xs → p (get_or xs j d) ≡ false) → ([] ≡ filter p xs) × (xs ≡ filter (λ x. not (p x)) xs)
  none_passes [] h = (refl, refl)
  none_passes (x ∷ xs) h =
      let here : p x ≡ false = h 0 x (omega arith) (omega arith) in
      let others = none_passes xs (λ j d l m. h (suc j) d (omega arith) (omega arith)) in (
        others.0 ∙ ap (λ b. cond b (x ∷ filter p xs) (filter p xs)) (sym here),
        ap (λ ys. x ∷ ys) others.1 ∙ ap (λ b. cond (not b) (x ∷ filter (λ y. not (p y)) xs) (filter (λ y. not (p y)) xs)) (sym here),
      )

  pub filter_both : (q : X → Bool) (xs : List X) → filter (λ x. q x && p x) xs ≡ filter q (filter p xs)
  filter_both q [] = refl
  filter_both q (x ∷ xs) = elim (p x) as (λ b. cond (q x && b) (x ∷ filter (λ y. q y && p y) xs) (filter (λ y. q y && p y) xs) ≡ filter q (cond b (x ∷ filter p xs) (filter p xs))) [
    | true ↦ elim (q x) as (λ b. cond (b && true) (x ∷ filter (λ y. q y && p y) xs) (filter (λ y. q y && p y) xs) ≡ cond b (x ∷ filter q (filter p xs)) (filter q (filter p xs))) [
      | true ↦ ap (λ ys. x ∷ ys) (filter_both q xs)
      | false ↦ filter_both q xs
    ]
    | false ↦ elim (q x) as (λ b. cond (b && false) (x ∷ filter (λ y. q y && p y) xs) (filter (λ y. q y && p y) xs) ≡ filter q (filter p xs)) [
      | true ↦ filter_both q xs
      | false ↦ filter_both q xs
    ]
  ]

  pub filter_all : (xs : List X) → ((x : X) → p x ≡ true) → filter p xs ≡ xs
  filter_all [] h = refl
  filter_all (x ∷ xs) h = ap (λ b. cond b (x ∷ filter p xs) (filter p xs)) (h x) ∙ ap (λ ys. x ∷ ys) (filter_all xs h)

  pub filter_none : (xs : List X) → ((x : X) → p x ≡ false) → filter p xs ≡ []
  filter_none [] h = refl
  filter_none (x ∷ xs) h = ap (λ b. cond b (x ∷ filter p xs) (filter p xs)) (h x) ∙ filter_none xs h

module _ {M : Type 0} where
  -- ---- a part of sorted messages

  all_from-filter : (p : (List ℕ × M) → Bool) (k : List ℕ) (ms : Messages M) → AllFrom k ms → AllFrom k (filter p ms)
  all_from-filter p k [] h = tt
  all_from-filter p k (m ∷ ms) h = elim (p m) as (λ b. AllFrom k (cond b (m ∷ filter p ms) (filter p ms))) [
    | true ↦ (h.0, all_from-filter p k ms h.1)
    | false ↦ all_from-filter p k ms h.1
  ]

  pub filter_sorted : (p : (List ℕ × M) → Bool) (ms : Messages M) → IsSorted ms → IsSorted (filter p ms)
  filter_sorted p [] h = tt
  filter_sorted p (m ∷ ms) h = elim (p m) as (λ b. IsSorted (cond b (m ∷ filter p ms) (filter p ms))) [
    | true ↦ (all_from-filter p m.0 ms h.0, filter_sorted p ms h.1)
    | false ↦ filter_sorted p ms h.1
  ]

  -- ---- the messages outside a range

  past_the_end : (to : Option (List ℕ)) (k : List ℕ) (ms : Messages M) → is_before_upper to k ≡ false → AllFrom k ms → filter (λ (m : List ℕ × M). is_before_upper to m.0) ms ≡ []
  past_the_end to k [] e h = refl
  past_the_end None k (m ∷ ms) e h = absurd (true≢false e)
  past_the_end (Some bound) k (m ∷ ms) e h =
      ap (λ b. cond b (m ∷ filter (λ (n : List ℕ × M). is_before n.0 bound) ms) (filter (λ (n : List ℕ × M). is_before n.0 bound) ms)) (later_chain bound k m.0 e h.0)
      ∙ past_the_end (Some bound) k ms e h.1

  -- they are those before its first bound, and those from its second one on
  pub outside_is : (from to : Option (List ℕ)) (ms : Messages M) → IsSorted ms →
      messages_outside from to ms ≡ filter (λ (m : List ℕ × M). is_before_lower from m.0) (filter (λ (m : List ℕ × M). is_before_upper to m.0) ms) ++ filter
      (λ (m : List ℕ × M). not (is_before_upper to m.0)) ms
  outside_is from to [] h = refl
  outside_is from to (m ∷ ms) h =
      let others = outside_is from to ms h.1 in
      elim (is_before_upper to m.0) as (λ s. is_before_upper to m.0 ≡ s →
      cond (not (not (is_before_lower from m.0) && s)) (m ∷ messages_outside from to ms) (messages_outside from to ms)
      ≡ filter (λ (n : List ℕ × M). is_before_lower from n.0) (cond s (m ∷ filter (λ (n : List ℕ × M). is_before_upper to n.0) ms) (filter (λ (n : List ℕ × M). is_before_upper to n.0) ms))
      ++ cond (not s) (m ∷ filter (λ (n : List ℕ × M). not (is_before_upper to n.0)) ms) (filter (λ (n : List ℕ × M). not (is_before_upper to n.0)) ms)) [
        | true ↦ λ e. elim (is_before_lower from m.0) as (λ b.
            cond (not (not b && true)) (m ∷ messages_outside from to ms) (messages_outside from to ms)
            ≡ cond b (m ∷ filter (λ (n : List ℕ × M). is_before_lower from n.0) (filter (λ (n : List ℕ × M). is_before_upper to n.0) ms))
            (filter (λ (n : List ℕ × M). is_before_lower from n.0) (filter (λ (n : List ℕ × M). is_before_upper to n.0) ms))
            ++ filter (λ (n : List ℕ × M). not (is_before_upper to n.0)) ms) [
              | true ↦ ap (λ zs. m ∷ zs) others
              | false ↦ others
            ]
        | false ↦ λ e.
            let none = past_the_end to m.0 ms e h.0 in
            let rest = ap (λ zs. m ∷ zs) (others ∙ ap (λ zs. filter (λ (n : List ℕ × M). is_before_lower from n.0) zs ++ filter (λ (n : List ℕ × M). not (is_before_upper to n.0)) ms) none)
            ∙ sym (ap (λ zs. filter (λ (n : List ℕ × M). is_before_lower from n.0) zs ++ m ∷ filter (λ (n : List ℕ × M). not (is_before_upper to n.0)) ms) none) in
            elim (is_before_lower from m.0) as (λ b.
            cond (not (not b && false)) (m ∷ messages_outside from to ms) (messages_outside from to ms)
            ≡ filter (λ (n : List ℕ × M). is_before_lower from n.0) (filter (λ (n : List ℕ × M). is_before_upper to n.0) ms) ++ m ∷ filter (λ (n : List ℕ × M). not (is_before_upper to n.0)) ms) [
              | true ↦ rest
              | false ↦ rest
            ]
      ] refl

  pub between_is : (from to : Option (List ℕ)) (ms : Messages M) →
      messages_between from to ms ≡ filter (λ (m : List ℕ × M). not (is_before_lower from m.0)) (filter (λ (m : List ℕ × M). is_before_upper to m.0) ms)
  between_is from to ms = filter_both (λ (m : List ℕ × M). is_before_upper to m.0) (λ (m : List ℕ × M). not (is_before_lower from m.0)) ms

  -- messages are cut at an upper bound, or at their end if there is none
  pub cut_upper : (to : Option (List ℕ)) (ms : Messages M) (n end : ℕ) → end ≡ length ms → MatchOption to (n ≡ end) (λ k. (take n ms ≡ messages_before k ms) × (drop n ms ≡ messages_from k ms)) →
      (take n ms ≡ filter (λ (m : List ℕ × M). is_before_upper to m.0) ms) × (drop n ms ≡ filter (λ (m : List ℕ × M). not (is_before_upper to m.0)) ms)
  cut_upper None ms n end l e = (
    ap (λ k. take k ms) (e ∙ l) ∙ take-length ms ∙ sym (filter_all (λ m. true) ms (λ m. refl)),
    ap (λ k. drop k ms) (e ∙ l) ∙ drop-length ms ∙ sym (filter_none (λ m. false) ms (λ m. refl)),
  )
  cut_upper (Some k) ms n end l h = h

  -- they are cut at a lower bound, or at their start if there is none
  pub cut_lower : (from : Option (List ℕ)) (ms : Messages M) (n : ℕ) → MatchOption from (n ≡ 0) (λ k. (take n ms ≡ messages_before k ms) × (drop n ms ≡ messages_from k ms)) →
      (take n ms ≡ filter (λ (m : List ℕ × M). is_before_lower from m.0) ms) × (drop n ms ≡ filter (λ (m : List ℕ × M). not (is_before_lower from m.0)) ms)
  cut_lower None ms n e =
      (ap (λ k. take k ms) e ∙ sym (filter_none (λ m. false) ms (λ m. refl)), ap (λ k. drop k ms) e ∙ sym (filter_all (λ m. true) ms (λ m. refl)))
  cut_lower (Some k) ms n h = h

  -- what is left and what was taken, step by step
  pub left_is : (from to : Option (List ℕ)) (ms first later left : Messages M) → IsSorted ms →
      first ≡ filter (λ (m : List ℕ × M). is_before_upper to m.0) ms → later ≡ filter (λ (m : List ℕ × M). not (is_before_upper to m.0)) ms →
      left ≡ filter (λ (m : List ℕ × M). is_before_lower from m.0) first → left ++ later ≡ messages_outside from to ms
  left_is from to ms first later left h e f g =
      ap (λ zs. zs ++ later) g ∙ ap (λ zs. filter (λ (m : List ℕ × M). is_before_lower from m.0) zs ++ later) e
      ∙ ap (λ zs. filter (λ (m : List ℕ × M). is_before_lower from m.0) (filter (λ (m : List ℕ × M). is_before_upper to m.0) ms) ++ zs) f
      ∙ sym (outside_is from to ms h)

  pub taken_is : (from to : Option (List ℕ)) (ms first taken : Messages M) →
      first ≡ filter (λ (m : List ℕ × M). is_before_upper to m.0) ms → taken ≡ filter (λ (m : List ℕ × M). not (is_before_lower from m.0)) first → taken ≡ messages_between from to ms
  taken_is from to ms first taken e f = f ∙ ap (filter (λ (m : List ℕ × M). not (is_before_lower from m.0))) e ∙ sym (between_is from to ms)

  pub sorted_part : (p : (List ℕ × M) → Bool) (ms part : Messages M) → IsSorted ms → part ≡ filter p ms → IsSorted part
  sorted_part p ms part h e = subst IsSorted (sym e) (filter_sorted p ms h)

  -- ---- newer messages go after those that are before the first of them

  none_before : (k : List ℕ) (e : List ℕ) (ms : Messages M) → is_before e k ≡ false → AllFrom e ms → (messages_before k ms ≡ []) × (messages_from k ms ≡ ms)
  none_before k e [] f h = (refl, refl)
  none_before k e (m ∷ ms) f h =
      let here = later_chain k e m.0 f h.0 in
      let others = none_before k e ms f h.1 in (
        ap (λ b. cond b (m ∷ messages_before k ms) (messages_before k ms)) here ∙ others.0,
        ap (λ b. cond (not b) (m ∷ messages_from k ms) (messages_from k ms)) here ∙ ap (λ zs. m ∷ zs) others.1,
      )

  pub following : (k : List ℕ) (newer older : Messages M) → AllFrom k newer → IsSorted older → messages_before k older ++ with_messages newer (messages_from k older) ≡ with_messages newer older
  following k newer [] h i = refl
  following k newer (e ∷ es) h i = elim (is_before e.0 k) as (λ t. is_before e.0 k ≡ t →
      cond t (e ∷ messages_before k es) (messages_before k es) ++ with_messages newer (cond (not t) (e ∷ messages_from k es) (messages_from k es)) ≡ with_messages newer (e ∷ es)) [
        | true ↦ λ t. ap (λ zs. e ∷ zs) (following k newer es h i.1) ∙ sym (first_stays e newer es (from_earlier e.0 k newer (not_after e.0 k t) h))
        | false ↦ λ t.
            let others = none_before k e.0 es t i.0 in
            ap (λ zs. zs ++ with_messages newer (e ∷ messages_from k es)) others.0 ∙ ap (λ zs. with_messages newer (e ∷ zs)) others.1
      ] refl

  -- the last of sorted messages
  pub tail_sorted : (k : List ℕ) (ms xs : Messages M) (n : ℕ) → IsSorted ms → drop n xs ≡ messages_from k ms → IsSorted (take (length xs - n) (drop n xs))
  tail_sorted k ms xs n h e = sorted_part (λ m. not (is_before m.0 k)) ms (take (length xs - n) (drop n xs)) h (take_rest xs n ∙ e)

  -- messages between bounds are at most all
  pub fewer_between : (from to : Option (List ℕ)) (ms part : Messages M) → part ≡ messages_between from to ms → length part ≤ length ms
  fewer_between from to ms part e =
      omega (arith, ap length e, length-filter_both (λ (m : List ℕ × M). is_between from to m.0) (λ (m : List ℕ × M). not (is_between from to m.0)) (λ m. refl) ms)

pub nothing : {X : Type 0} (xs : List X) → length xs ≡ 0 → xs ≡ []
nothing [] e = refl
nothing (x ∷ xs) e = absurd (omega (arith, e))
