-- One pass over older and newer messages, or newer ones after all older ones, for `merge_front`.
use Rattle.std.proofs.Common.{◌≡◌, ◌==◌, Ordering, Less, Equal, Greater, ℕ, zero, suc, ◌<◌, true, false, List, [], ◌∷◌, ◌++◌}
use Rattle.std.proofs.Common.{append_assoc, get_or, length, take, refl, sym, ap, subst, ◌∙◌, arith, if◌then◌else◌}
use Rattle.std.proofs.lemmas.Bool.{false≢true}
use Rattle.std.specs.Ordering.{is_lt, ordering_index}
use Rattle.bt_keycode.specs.Keys.{AllFrom, IsSorted, is_before}
use Rattle.bt_message.specs.Messages.{Messages, messages_past, messages_up_to, with_messages}
use Rattle.bt_messages.proofs.Cuts.{from_first, nothing}
use Rattle.bt_messages.proofs.offered.Fronts.{sorted_take}
use Rattle.bt_messages.proofs.offered.Placed.{alone, first_stays, newer_first, newer_last}
use Rattle.bt_keycode.proofs.offered.Order.{from_earlier}

-- the older messages up to the key of the first new one, that one, and then the others
pub merged_at : {M : Type 0} (n : List ℕ × M) (ns os : Messages M) → AllFrom n.0 ns →
    with_messages (n ∷ ns) os ≡ messages_up_to n.0 os ++ n ∷ with_messages ns (messages_past n.0 os)
merged_at n ns [] h = newer_last n ns h
merged_at n ns (e ∷ os) h = elim (is_before n.0 e.0) as (λ t. is_before n.0 e.0 ≡ t →
    with_messages (n ∷ ns) (e ∷ os) ≡ (if t then [] else e ∷ messages_up_to n.0 os) ++ n ∷ with_messages ns (if t then e ∷ os else messages_past n.0 os)) [
      | true ↦ λ t. newer_first n e ns os h t
      | false ↦ λ t. first_stays e (n ∷ ns) os (t, from_earlier e.0 n.0 ns t h) ∙ ap (λ zs. e ∷ zs) (merged_at n ns os h)
    ] refl

-- the older messages up to the key of a new one, and then that one, are moved to the merged ones
pub record AreMoved {M : Type 0} (n : List ℕ × M) (os past start done : Messages M) : Type 0 where
  pub between : Messages M
  pub up_to : between ≡ start ++ messages_up_to n.0 os
  pub past_are : past ≡ messages_past n.0 os
  pub pushed : done ≡ between ++ n ∷ []

-- a step of the pass
pub step : {M : Type 0} (n : List ℕ × M) (ns : Messages M) {rest os past wanted start done : Messages M} → rest ≡ n ∷ ns → IsSorted rest → wanted ≡ start ++ with_messages rest os →
    AreMoved n os past start done → wanted ≡ done ++ with_messages ns past
step {M} n ns {os = os} {start = start} {done = done} e h w moved =
    let sorted : IsSorted (n ∷ ns) = subst (IsSorted {X = M}) e h in
    w ∙ ap (λ zs. start ++ with_messages zs os) e ∙ ap (λ zs. start ++ zs) (merged_at n ns os sorted.0)
    ∙ sym (append_assoc start (messages_up_to n.0 os) (n ∷ with_messages ns (messages_past n.0 os)))
    ∙ ap (λ zs. zs ++ n ∷ with_messages ns (messages_past n.0 os)) (sym moved.up_to)
    ∙ sym (append_assoc moved.between (n ∷ []) (with_messages ns (messages_past n.0 os)))
    ∙ ap (λ zs. zs ++ with_messages ns (messages_past n.0 os)) (sym moved.pushed)
    ∙ ap (λ zs. done ++ with_messages ns zs) (sym moved.past_are)

-- new messages come after all old ones if none of them goes before the last of these
pub all_following : {M : Type 0} (older newer : Messages M) (last : List ℕ × M) (i : ℕ) → IsSorted older → IsSorted newer → length older ≡ suc i → last ≡ get_or older i last → AllFrom last.0 newer →
    with_messages newer older ≡ older ++ newer
all_following [] newer last i h n l e f = alone newer n
all_following {M = M} (o ∷ []) newer last zero h n l e f =
    first_stays o newer [] (subst (λ (m : List ℕ × M). AllFrom m.0 newer) e f) ∙ ap (λ zs. o ∷ zs) (alone newer n)
all_following (o ∷ []) newer last (suc i) h n l e f = absurd (omega (arith, l))
all_following (o ∷ p ∷ os) newer last zero h n l e f = absurd (omega (arith, l))
all_following {M = M} (o ∷ p ∷ os) newer last (suc i) h n l e f =
    let later : is_before last.0 o.0 ≡ false = ap (λ (m : List ℕ × M). is_before m.0 o.0) e ∙ from_first o.0 (p ∷ os) i last h.0 (omega (arith, l)) in
    first_stays o newer (p ∷ os) (from_earlier o.0 last.0 newer later f) ∙ ap (λ zs. o ∷ zs) (all_following (p ∷ os) newer last i h.1 n (omega (arith, l)) e f)

module _ {M : Type 0} (older s : Messages M) (n : ℕ) where
  -- no old message
  pub none_old : length older < 1 → IsSorted s → with_messages (take n s) older ≡ older ++ take n s
  none_old l h = subst (λ os. with_messages (take n s) os ≡ os ++ take n s) (sym (nothing older (omega (arith, l)))) (alone (take n s) (sorted_take n s h))

-- the moves end at a message whose key is past this one
pub ends_at : {M : Type 0} (k : List ℕ) (ms : Messages M) (m : List ℕ × M) → 0 < length ms → m ≡ get_or ms 0 m → is_before k m.0 ≡ true →
    (messages_up_to k ms ≡ []) × (messages_past k ms ≡ ms)
ends_at k [] m l e t = absurd (omega (arith, l))
ends_at {M = M} k (n ∷ ns) m l e t =
    let here : is_before k n.0 ≡ true = ap (λ (x : List ℕ × M). is_before k x.0) (sym e) ∙ t in
    (ap (λ b. if b then [] else n ∷ messages_up_to k ns) here, ap (λ b. if b then n ∷ ns else messages_past k ns) here)

-- at any other they continue
pub goes_on : {M : Type 0} (k : List ℕ) (ms rest : Messages M) (m n : List ℕ × M) → m ≡ get_or ms 0 m → ms ≡ n ∷ rest → is_before k m.0 ≡ false →
    (messages_up_to k ms ≡ n ∷ messages_up_to k rest) × (messages_past k ms ≡ messages_past k rest)
goes_on {M = M} k ms rest m n e s f =
    let here : is_before k n.0 ≡ false = ap (λ (x : List ℕ × M). is_before k x.0) (sym (e ∙ ap (λ zs. get_or zs 0 m) s)) ∙ f in (
      ap (messages_up_to k) s ∙ ap (λ b. if b then [] else n ∷ messages_up_to k rest) here,
      ap (messages_past k) s ∙ ap (λ b. if b then n ∷ rest else messages_past k rest) here,
    )

-- the index of an ordering is 0 if it is `Less`
pub is_first : (o : Ordering) → is_lt o ≡ (ordering_index o == 0)
is_first Less = refl
is_first Equal = refl
is_first Greater = refl

-- what is not above 0 is 0
pub none_first : (n : ℕ) → (0 < n → false ≡ true) → n ≡ 0
none_first zero h = refl
none_first (suc n) h = absurd (false≢true (h (omega arith)))
