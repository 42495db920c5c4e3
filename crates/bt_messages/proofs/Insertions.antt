-- A message inserted at its place among sorted ones, and the only share that has messages, for `insert`, `insert_front` and `add_shares`.
use Rattle.std.proofs.Common.{◌≡◌, ◌≢◌, ◌∙◌, ℕ, zero, suc, ◌<◌, ◌≤◌, ◌+◌, ◌-◌, Bool, true, false, true≢false, not, List, [], ◌∷◌}
use Rattle.std.proofs.Common.{◌++◌, length, take, drop, get_or, set, refl, sym, ap, subst, arith, inl, inr, if◌then◌else◌}
use Rattle.std.proofs.lemmas.Bool.Decides.{leb_tells}
use borrow.Author.Count.{below_more}
use Rattle.std.specs.List.Sorted.{IsPartitionedBy, IsPartitionPoint}
use Rattle.bt_keycode.specs.Keys.{IsSorted, is_before}
use Rattle.bt_keycode.proofs.offered.Order.{before_later}
use Rattle.bt_messages.specs.Bins.{each_with}
use Rattle.bt_message.specs.Messages.{Messages, messages_past, messages_up_to, with_message, with_messages}
use Rattle.bt_messages.specs.Parts.{parted, total}
use Rattle.bt_messages.proofs.Cuts.{in_order}
use Rattle.bt_messages.specs.Shares.{AreShares, IsShare, counts}
use Rattle.bt_messages.specs.declared.share.Share.{Share}
use Rattle.bt_messages.proofs.Weighing.{count_here}
use Rattle.bt_messages.proofs.offered.Fronts.{one_taken}
use Rattle.bt_messages.proofs.offered.Placed.{sorted-with_messages}

not_false : (b : Bool) → not b ≡ false → b ≡ true
not_false true e = refl
not_false false e = absurd (true≢false e)

not_true : (b : Bool) → not b ≡ true → b ≡ false
not_true true e = absurd (true≢false (sym e))
not_true false e = refl

module _ {M : Type 0} where
  -- ---- the place of a message

  -- the messages with a key at or before this one come first
  pub parted_up : (k : List ℕ) (ms : Messages M) → IsSorted ms → IsPartitionedBy (λ m. not (is_before k m.0)) ms
  parted_up k ms h i j d l n e = go (is_before k (get_or ms i d).0) refl
    where
      go : (t : Bool) → is_before k (get_or ms i d).0 ≡ t → not (is_before k (get_or ms i d).0) ≡ true
      go true f = absurd (true≢false (sym e ∙ ap not (before_later k (get_or ms i d).0 (get_or ms j d).0 f (in_order ms i j d h l n))))
      go false f = ap not f

  pub up_to_parts : (k : List ℕ) (ms : Messages M) (n : ℕ) → IsPartitionPoint (λ m. not (is_before k m.0) ≡ true) (λ m. not (is_before k m.0) ≡ false) ms n →
      (take n ms ≡ messages_up_to k ms) × (drop n ms ≡ messages_past k ms)
  up_to_parts k [] zero h = (refl, refl)
  up_to_parts k [] (suc n) h = (refl, refl)
  up_to_parts k (m ∷ ms) zero h =
      let past : is_before k m.0 ≡ true = not_false (is_before k m.0) (h.1 0 m (omega arith) (omega arith)) in (
        sym (ap (λ b. if b then [] else m ∷ messages_up_to k ms) past),
        sym (ap (λ b. if b then m ∷ ms else messages_past k ms) past),
      )
  up_to_parts k (m ∷ ms) (suc n) h =
      let here : is_before k m.0 ≡ false = not_true (is_before k m.0) (h.0 0 m (omega arith) (omega arith)) in
      let others = up_to_parts k ms n ((λ j d l p. h.0 (suc j) d (omega arith) (omega arith)), (λ j d l p. h.1 (suc j) d (omega arith) (omega arith))) in (
        ap (λ zs. m ∷ zs) others.0 ∙ sym (ap (λ b. if b then [] else m ∷ messages_up_to k ms) here),
        others.1 ∙ sym (ap (λ b. if b then m ∷ ms else messages_past k ms) here),
      )

  at_place : (m : List ℕ × M) (es : Messages M) → with_message m es ≡ messages_up_to m.0 es ++ m ∷ messages_past m.0 es
  at_place m [] = refl
  at_place m (e ∷ es) = elim (is_before m.0 e.0) as (λ b. (if b then m ∷ e ∷ es else e ∷ with_message m es) ≡
      (if b then [] else e ∷ messages_up_to m.0 es) ++ m ∷ (if b then e ∷ es else messages_past m.0 es)) [
        | true ↦ refl
        | false ↦ ap (λ zs. e ∷ zs) (at_place m es)
      ]

  -- a message inserted after those with a key at or before its own is placed
  pub inserted : (m : List ℕ × M) (es now : Messages M) (n : ℕ) → now ≡ take n es ++ m ∷ drop n es → take n es ≡ messages_up_to m.0 es → drop n es ≡ messages_past m.0 es → now ≡ with_message m es
  inserted m es now n is up past = is ∙ ap (λ zs. zs ++ m ∷ drop n es) up ∙ ap (λ zs. messages_up_to m.0 es ++ m ∷ zs) past ∙ sym (at_place m es)

  pub placed_sorted : (m : List ℕ × M) (es now : Messages M) → now ≡ with_message m es → IsSorted es → IsSorted now
  placed_sorted m es now is h = subst IsSorted (sym is) (sorted-with_messages (m ∷ []) es h)

  -- one message more is placed
  pub insert_step : (m : List ℕ × M) (rest ms es now wanted : Messages M) (count i : ℕ) → i < count → ms ≡ m ∷ rest → now ≡ with_message m es →
      with_messages (take (count - i) ms) es ≡ wanted → with_messages (take (count - (i + 1)) rest) now ≡ wanted
  insert_step m rest ms es now wanted count i l e n w =
      ap (with_messages (take (count - (i + 1)) rest)) n ∙ sym (ap (λ zs. with_messages zs es) (one_taken ms rest m count i l e).0) ∙ w

  -- ---- a single share

  none_gained : (ns : List ℕ) (ms : Messages M) (bs : List (Messages M)) → length ns ≡ length bs → ((j : ℕ) → get_or ns j 0 ≡ 0) → each_with (parted ns ms) bs ≡ bs
  none_gained [] ms [] e h = refl
  none_gained [] ms (b ∷ bs) e h = absurd (omega (arith, e))
  none_gained (n ∷ ns) ms [] e h = absurd (omega (arith, e))
  none_gained (n ∷ ns) ms (b ∷ bs) e h =
      ap (λ k. with_messages (take k ms) b ∷ each_with (parted ns (drop k ms)) bs) (h 0) ∙ ap (λ zs. b ∷ zs) (none_gained ns ms bs (omega (arith, e)) (λ j. h (suc j)))

  -- the buffer at its place gains it, and the others stay the same
  pub one_gained : (ns : List ℕ) (ms : Messages M) (bs : List (Messages M)) (p n : ℕ) (old new : Messages M) → length ns ≡ length bs → p < length ns → n ≡ get_or ns p n → old ≡ get_or bs p old →
      ((j : ℕ) → j ≢ p → get_or ns j 0 ≡ 0) → new ≡ with_messages (take n ms) old → set bs p new ≡ each_with (parted ns ms) bs
  one_gained [] ms bs p n old new e l here is h g = absurd (omega (arith, l))
  one_gained (k ∷ ns) ms [] p n old new e l here is h g = absurd (omega (arith, e))
  one_gained (k ∷ ns) ms (b ∷ bs) zero n old new e l here is h g =
      ap (λ zs. new ∷ zs) (sym (none_gained ns (drop k ms) bs (omega (arith, e)) (λ j. h (suc j) (λ f. omega (arith, f)))))
      ∙ ap (λ z. z ∷ each_with (parted ns (drop k ms)) bs) (g ∙ ap (λ i. with_messages (take i ms) old) here ∙ ap (with_messages (take k ms)) is)
  one_gained (k ∷ ns) ms (b ∷ bs) (suc p) n old new e l here is h g =
      ap (λ zs. b ∷ zs) (one_gained ns ms bs p n old new (omega (arith, e)) (omega (arith, l)) here is (λ j f. h (suc j) (λ q. f (omega (arith, q)))) g)
      ∙ sym (ap (λ i. with_messages (take i ms) b ∷ each_with (parted ns (drop i ms)) bs) (h 0 (λ f. omega (arith, f))))

none_together : (ns : List ℕ) → ((j : ℕ) → get_or ns j 0 ≡ 0) → total ns ≡ 0
none_together [] h = refl
none_together (n ∷ ns) h = omega (arith, h 0, none_together ns (λ j. h (suc j)))

-- its number is the total
pub one_together : (ns : List ℕ) (p n : ℕ) → p < length ns → n ≡ get_or ns p n → ((j : ℕ) → j ≢ p → get_or ns j 0 ≡ 0) → total ns ≡ n
one_together [] p n l here h = absurd (omega (arith, l))
one_together (k ∷ ns) zero n l here h = omega (arith, here, none_together ns (λ j. h (suc j) (λ f. omega (arith, f))))
one_together (k ∷ ns) (suc p) n l here h = omega (arith, h 0 (λ f. omega (arith, f)), one_together ns p n (omega (arith, l)) here (λ j f. h (suc j) (λ q. f (omega (arith, q)))))

-- ---- shares without messages

past_all : (ns : List ℕ) (j : ℕ) → length ns ≤ j → get_or ns j 0 ≡ 0
past_all [] j l = refl
past_all (n ∷ ns) zero l = absurd (omega (arith, l))
past_all (n ∷ ns) (suc j) l = past_all ns j (omega (arith, l))

-- one more place without messages
pub empty_more : (ns : List ℕ) (from place : ℕ) → ((j : ℕ) → from ≤ j → j < place → get_or ns j 0 ≡ 0) → get_or ns place 0 ≡ 0 → (j : ℕ) → from ≤ j → j < place + 1 → get_or ns j 0 ≡ 0
empty_more ns from place before here = λ j f l. below_more (λ k. from ≤ k → get_or ns k 0 ≡ 0) place (λ k m g. before k g m) (λ _. here) j l f

-- if none before a place and none after it has messages, no other has
pub only_at : (ns : List ℕ) (p : ℕ) → ((j : ℕ) → 0 ≤ j → j < p → get_or ns j 0 ≡ 0) → ((j : ℕ) → p + 1 ≤ j → j < length ns → get_or ns j 0 ≡ 0) → (j : ℕ) → j ≢ p → get_or ns j 0 ≡ 0
only_at ns p before following j other = elim (leb_tells (length ns) j) [
  | inl past ↦ past_all ns j past.1
  | inr within ↦ elim (leb_tells p j) [
    | inl high ↦ following j (omega (arith, high.1, other)) within.1
    | inr low ↦ before j (omega arith) low.1
  ]
]

pub empty_here : (ss : List Share) (i : ℕ) (d : Share) → i < length ss → (get_or ss i d).count ≡ 0 → get_or (counts ss) i 0 ≡ 0
empty_here ss i d l e = sym (count_here ss i d 0 l (sym e))

-- the only share that has messages has all of them
pub only_share : {X : Type 0} (weigh : X → ℕ) (ms : List X) (ss : List Share) (p : ℕ) (d : Share) → p < length ss → ((j : ℕ) → j ≢ p → get_or (counts ss) j 0 ≡ 0) → AreShares weigh ms ss →
    IsShare weigh ms (get_or ss p d)
only_share weigh ms [] p d l h are = absurd (omega (arith, l))
only_share weigh ms (s ∷ ss) zero d l h are = are.0
only_share weigh ms (s ∷ ss) (suc p) d l h are =
    only_share weigh ms ss p d (omega (arith, l)) (λ j f. h (suc j) (λ q. f (omega (arith, q)))) (subst (λ k. AreShares weigh (drop k ms) ss) (h 0 (λ f. omega (arith, f))) are.1)
