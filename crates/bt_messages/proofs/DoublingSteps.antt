-- Sorted messages searched for a key by steps that double.
use Rattle.std.proofs.Common.{◌≡◌, ◌+◌, ◌-◌, ◌<◌, ◌≤◌, ◌∙◌, ℕ, zero, suc, true, false, [], ◌∷◌, ap, arith, drop, drop-drop, get_or, length, refl, subst, sym}
use Rattle.std.proofs.Common.{take, take-append-drop, true≢false, inl, inr}
use Rattle.std.specs.List.Sorted.{IsPartitionPoint}
use Rattle.bt_keycode.specs.Keys.{AllFrom, IsSorted, Key, is_before}
use Rattle.bt_keycode.proofs.offered.Order.{before_later, from_earlier, sides}
use Rattle.bt_messages.specs.Bins.{AllBefore}
use Rattle.bt_message.specs.Messages.{Messages, messages_before, messages_from}
use Rattle.bt_messages.specs.inside.Brackets.{IsBracket}
use Rattle.bt_messages.proofs.Cuts.{from_first}
use Rattle.bt_messages.proofs.Slices.{sides as parts, sorted_drop}
use Rattle.bt_messages.proofs.offered.Fronts.{from-take}
use Rattle.bt_messages.proofs.offered.Parts.{cut_at}

-- what comes no later than something before a key is before it too
earlier_too : (k a b : Key) → is_before b a ≡ false → is_before b k ≡ true → is_before a k ≡ true
earlier_too k a b later e = elim (sides a k) [
  | inl less ↦ less
  | inr past ↦ absurd (true≢false (sym (before_later b k a e past) ∙ later))
]

module _ {M : Type 0} where
  all_earlier : (k : Key) (n m : ℕ) (ms : Messages M) (d : Key × M) → IsSorted ms → n < length ms → is_before (get_or ms n d).0 k ≡ true → m ≤ n + 1 →
      AllBefore k (take m ms)
  all_earlier k n zero ms d s l e few = tt
  all_earlier k n (suc m) [] d s l e few = tt
  all_earlier k zero (suc zero) (x ∷ ms) d s l e few = (e, tt)
  all_earlier k zero (suc (suc m)) (x ∷ ms) d s l e few = absurd (omega (arith, few))
  all_earlier k (suc n) (suc m) (x ∷ ms) d s l e few =
      let later = from_first x.0 ms n d s.0 (omega (arith, l)) in
      (earlier_too k x.0 (get_or ms n d).0 later e, all_earlier k n m ms d s.1 (omega (arith, l)) e (omega (arith, few)))

  all_later : (k : Key) (n : ℕ) (ms : Messages M) (d : Key × M) → IsSorted ms → n < length ms → is_before (get_or ms n d).0 k ≡ false →
      AllFrom k (drop n ms)
  all_later k n [] d s l e = absurd (omega (arith, l))
  all_later k zero (x ∷ ms) d s l e = (e, from_earlier k x.0 ms e s.0)
  all_later k (suc n) (x ∷ ms) d s l e = all_later k n ms d s.1 (omega (arith, l)) e

  -- a message before the key: so are those before it
  pub before_place : (k : Key) (n m : ℕ) (ms : Messages M) (x : Key × M) → IsSorted ms → n < length ms → x ≡ get_or ms n x → is_before x.0 k ≡ true →
      m ≤ n + 1 → AllBefore k (take m ms)
  before_place k n m ms x s l is e few = all_earlier k n m ms x s l (ap (λ (y : Key × M). is_before y.0 k) (sym is) ∙ e) few

  -- one that isn't: nor are those after it
  pub from_place : (k : Key) (n : ℕ) (ms : Messages M) (x : Key × M) → IsSorted ms → n < length ms → x ≡ get_or ms n x → is_before x.0 k ≡ false →
      AllFrom k (drop n ms)
  from_place k n ms x s l is e = all_later k n ms x s l (ap (λ (y : Key × M). is_before y.0 k) (sym is) ∙ e)

  pub none_left : (k : Key) (n : ℕ) (ms : Messages M) → length ms ≤ n → AllFrom k (drop n ms)
  none_left k zero [] l = tt
  none_left k (suc n) [] l = tt
  none_left k zero (x ∷ ms) l = absurd (omega (arith, l))
  none_left k (suc n) (x ∷ ms) l = none_left k n ms (omega (arith, l))

  -- ---- a place found within a bracket

  sorted_front : (n : ℕ) (ms : Messages M) → IsSorted ms → IsSorted (take n ms)
  sorted_front zero ms s = tt
  sorted_front (suc n) [] s = tt
  sorted_front (suc n) (x ∷ ms) s = (from-take x.0 n ms s.0, sorted_front n ms s.1)

  pub slice_sorted : (low c : ℕ) (ms : Messages M) → IsSorted ms → IsSorted (take c (drop low ms))
  slice_sorted low c ms s = sorted_front c (drop low ms) (sorted_drop low ms s)

  cut_before : (k : Key) (m c : ℕ) (ms : Messages M) → m ≤ c → AllBefore k (take m (take c ms)) → AllBefore k (take m ms)
  cut_before k zero c ms l h = tt
  cut_before k (suc m) zero ms l h = absurd (omega (arith, l))
  cut_before k (suc m) (suc c) [] l h = tt
  cut_before k (suc m) (suc c) (x ∷ ms) l h = (h.0, cut_before k m c ms (omega (arith, l)) h.1)

  cut_from : (k : Key) (m c : ℕ) (ms : Messages M) → m ≤ c → AllFrom k (drop m (take c ms)) → AllFrom k (drop c ms) → AllFrom k (drop m ms)
  cut_from k zero zero ms l h f = f
  cut_from k zero (suc c) [] l h f = tt
  cut_from k zero (suc c) (x ∷ ms) l h f = (h.0, cut_from k zero c ms (omega arith) h.1 f)
  cut_from k (suc m) zero ms l h f = absurd (omega (arith, l))
  cut_from k (suc m) (suc c) [] l h f = tt
  cut_from k (suc m) (suc c) (x ∷ ms) l h f = cut_from k m c ms (omega (arith, l)) h f

  join_before : (k : Key) (low m n : ℕ) (ms : Messages M) → n ≡ low + m → AllBefore k (take low ms) → AllBefore k (take m (drop low ms)) →
      AllBefore k (take n ms)
  join_before k zero m n ms is b h =
      let same : m ≡ n = omega (arith, is) in
      subst (λ i. AllBefore k (take i ms)) same h
  join_before k (suc low) m zero ms is b h = tt
  join_before k (suc low) m (suc n) [] is b h = tt
  join_before k (suc low) m (suc n) (x ∷ ms) is b h = (b.0, join_before k low m n ms (omega (arith, is)) b.1 h)

  pub found_place : (k : Key) (low high m : ℕ) (ms slice : Messages M) → IsBracket k low high ms → slice ≡ take (high - low) (drop low ms) →
      m ≤ high - low → IsPartitionPoint (λ (x : Key × M). is_before x.0 k ≡ true) (λ (x : Key × M). is_before x.0 k ≡ false) slice m →
      (take (low + m) ms ≡ messages_before k ms) × (drop (low + m) ms ≡ messages_from k ms)
  found_place k low high m ms slice b is l point =
      let halves = parts k slice m point in
      let later = drop low ms in
      let near : AllBefore k (take m later) = cut_before k m (high - low) later l (subst (λ zs. AllBefore k (take m zs)) is halves.0) in
      let first = join_before k low m (low + m) ms refl b.before near in
      let high_is : low + (high - low) ≡ high = omega (arith, b.order) in
      let past = subst (AllFrom k) (sym (drop-drop (high - low) low ms ∙ ap (λ n. drop n ms) high_is)) b.from in
      let left : AllFrom k (drop m later) = cut_from k m (high - low) later l (subst (λ zs. AllFrom k (drop m zs)) is halves.1) past in
      let rest = subst (AllFrom k) (drop-drop m low ms) left in
      let cut = cut_at k (take (low + m) ms) (drop (low + m) ms) first rest in
      let whole = take-append-drop (low + m) ms in
      (sym cut.0 ∙ ap (messages_before k) whole, sym cut.1 ∙ ap (messages_from k) whole)
