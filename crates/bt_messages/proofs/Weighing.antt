-- Stored sums and weighed shares, for the steps of `gain`, `weigh_next` and `weighed_shares`.
use Rattle.std.proofs.Common.{◌≡◌, ℕ, zero, suc, ◌<◌, ◌≤◌, ◌+◌, ◌-◌, List, [], ◌∷◌, ◌++◌, Option, None, Some, IfSome}
use Rattle.std.proofs.Common.{append_assoc, drop, get_or, length, map, set, take, refl, sym, ap, subst, ◌∙◌, arith}
use Rattle.std.proofs.lemmas.List.{append-nil, drop-drop, drop-map, drop-set-lt, drop_all, drop_more, get_or-map, length-drop, length-take-le, take_all, take_more_set}
use Rattle.bt_keycode.specs.Keys.{Key}
use Rattle.bt_message.specs.Messages.{Messages, with_messages}
use Rattle.bt_messages.specs.Parts.{parted, total}
use Rattle.bt_messages.specs.Shares.{AreShares, counts, share_of}
use Rattle.bt_message.specs.Terms.{Terms}
use Rattle.bt_message.specs.Weights.{IsSum, weigh_of, weight}
use Rattle.bt_message.specs.declared.measure.Measure.{Measure}
use Rattle.bt_message.specs.declared.measure.Measure.TheVariants as measures
use Rattle.bt_message.specs.declared.message.Message.{Message}
use Rattle.bt_messages.specs.declared.share.Share.{Share}
use Rattle.bt_messages.specs.inside.Sums.{counted}
use Rattle.bt_messages.proofs.offered.Loads.{load-with_messages, weight-small}

-- no more are taken than there are
fewer : {X : Type 0} (n : ℕ) (xs : List X) → length (take n xs) ≤ length xs
fewer zero xs = omega arith
fewer (suc n) [] = omega arith
fewer (suc n) (x ∷ xs) = omega (arith, fewer n xs)

pub length-counts : (ss : List Share) → length (counts ss) ≡ length ss
length-counts [] = refl
length-counts (s ∷ ss) = ap suc (length-counts ss)

pub count_here : (ss : List Share) (i : ℕ) (d : Share) (n : ℕ) → i < length ss → n ≡ (get_or ss i d).count → n ≡ get_or (counts ss) i n
count_here ss i d n l e = e ∙ sym (get_or-map (λ (s : Share). s.count) ss i d n l)

-- ---- sums

module _ {M : Type 0} (weigh : Key × M → ℕ) where
  -- newer messages among none, and among some
  pub sum-first : (ms older : Messages M) (more : ℕ) (sum : Option ℕ) → older ≡ [] → sum ≡ Some more → IsSum weigh ms sum → IsSum weigh (with_messages ms older) (Some more)
  sum-first ms older more sum n e h =
      let is : more ≡ weight weigh ms = subst (IsSum weigh ms) e h in
      omega (arith, is, load-with_messages weigh measures.Bytes ms older, ap (weight weigh) n)

  pub sum-both : (ms older : Messages M) (more old : ℕ) (share sum : Option ℕ) → share ≡ Some more → sum ≡ Some old → IsSum weigh older sum → IsSum weigh ms share →
      IsSum weigh (with_messages ms older) (Some (old + more))
  sum-both ms older more old w s e f k h =
      let is : more ≡ weight weigh ms = subst (IsSum weigh ms) e h in
      let was : old ≡ weight weigh older = subst (IsSum weigh older) f k in
      omega (arith, is, was, load-with_messages weigh measures.Bytes ms older)

-- the weight of a share, if it is known
pub share-small : {V D : Type 0} (terms : Terms V D) (n : ℕ) (ms : Messages (Message V D)) (sum : Option ℕ) → length ms < 9223372036854775808 → IsSum (weigh_of terms) (take n ms) sum →
    IfSome sum (λ k. k < 154742504910672534362390528)
share-small terms n ms None l h = tt
share-small terms n ms (Some k) l h = omega (arith, h, weight-small terms (take n ms) (omega (arith, fewer n ms, l)))

pub sum-small : {V D : Type 0} (terms : Terms V D) (ms : Messages (Message V D)) (sum : Option ℕ) (k : ℕ) → sum ≡ Some k → length ms < 9223372036854775808 → IsSum (weigh_of terms) ms sum →
    k < 154742504910672534362390528
sum-small terms ms sum k e l h = let is : k ≡ weight (weigh_of terms) ms = subst (IsSum (weigh_of terms) ms) e h in omega (arith, is, weight-small terms ms l)

-- ---- shares

module _ {X : Type 0} (weigh : X → ℕ) where
  weight-none : (n : ℕ) → weight weigh (take n []) ≡ 0
  weight-none zero = refl
  weight-none (suc n) = refl

  -- the weight of the first of some items, and of those after them
  weight-split : (k n : ℕ) (xs : List X) → k ≤ n → weight weigh (take n xs) ≡ weight weigh (take k xs) + weight weigh (take (n - k) (drop k xs))
  weight-split zero n xs l = let e : n - 0 ≡ n = omega arith in omega (arith, ap (λ i. weight weigh (take i xs)) e)
  weight-split (suc k) zero xs l = absurd (omega (arith, l))
  weight-split (suc k) (suc n) [] l = omega (arith, weight-none (suc n - suc k))
  weight-split (suc k) (suc n) (x ∷ xs) l =
      let e : suc n - suc k ≡ n - k = omega arith in
      omega (arith, weight-split k n xs (omega (arith, l)), ap (λ i. weight weigh (take i (drop k xs))) e)

  -- `n` items are read, the next of them after `k`
  module _ (k n : ℕ) (xs ys : List X) (l : k ≤ n) (later : ys ≡ drop k xs) where
    pub weight-next : weight weigh (take n xs) ≡ weight weigh (take k xs) + weight weigh (take (n - k) ys)
    weight-next = weight-split k n xs l ∙ sym (ap (λ zs. weight weigh (take k xs) + weight weigh (take (n - k) zs)) later)

    pub left-next : drop (n - k) ys ≡ drop n xs
    left-next = let e : k + (n - k) ≡ n = omega (arith, l) in ap (drop (n - k)) later ∙ drop-drop (n - k) k xs ∙ ap (λ i. drop i xs) e

  -- counted shares are those of messages that are counted
  pub shares-counted : (ns : List ℕ) (ms : List X) → total ns ≤ length ms → map counted ns ≡ map (share_of weigh measures.Messages) (parted ns ms)
  shares-counted [] ms l = refl
  shares-counted (n ∷ ns) ms l =
      ap (λ k. counted k ∷ map counted ns) (sym (length-take-le n ms (omega (arith, l))))
      ∙ ap (λ ss. share_of weigh measures.Messages (take n ms) ∷ ss) (shares-counted ns (drop n ms) (omega (arith, l, length-drop n ms)))

  counts-parted : (measure : Measure) (ns : List ℕ) (ms : List X) → total ns ≤ length ms → counts (map (share_of weigh measure) (parted ns ms)) ≡ ns
  counts-parted measure [] ms l = refl
  counts-parted measure (n ∷ ns) ms l =
      ap (λ k. k ∷ counts (map (share_of weigh measure) (parted ns (drop n ms)))) (count_is measure)
      ∙ ap (λ ks. n ∷ ks) (counts-parted measure ns (drop n ms) (omega (arith, l, length-drop n ms)))
    where
      count_is : (measure : Measure) → (share_of weigh measure (take n ms)).count ≡ n
      count_is measures.Messages = length-take-le n ms (omega (arith, l))
      count_is measures.Bytes = length-take-le n ms (omega (arith, l))

  -- weighed shares have as many messages as before
  pub counts-weighed : (ns : List ℕ) (ms left : List X) (ss : List Share) → total ns ≤ length ms → left ≡ ms → ss ≡ map (share_of weigh measures.Bytes) (parted ns left) → counts ss ≡ ns
  counts-weighed ns ms left ss l e f = ap counts (f ∙ ap (λ ms. map (share_of weigh measures.Bytes) (parted ns ms)) e) ∙ counts-parted measures.Bytes ns ms l

  pub are-shares : (measure : Measure) (ns : List ℕ) (ms : List X) → total ns ≤ length ms → AreShares weigh ms (map (share_of weigh measure) (parted ns ms))
  are-shares measure [] ms l = tt
  are-shares measure (n ∷ ns) ms l =
      let here = length-take-le n ms (omega (arith, l)) in
      let others = are-shares measure ns (drop n ms) (omega (arith, l, length-drop n ms)) in
      is-share measure here others
    where
      is-share : (measure : Measure) → length (take n ms) ≡ n → AreShares weigh (drop n ms) (map (share_of weigh measure) (parted ns (drop n ms))) →
          AreShares weigh ms (map (share_of weigh measure) (parted (n ∷ ns) ms))
      is-share measures.Messages e h =
          ((omega (arith, e, l), tt), subst (λ k. AreShares weigh (drop k ms) (map (share_of weigh measures.Messages) (parted ns (drop n ms)))) (sym e) h)
      is-share measures.Bytes e h =
          ((omega (arith, e, l), ap (λ k. weight weigh (take k ms)) (sym e)), subst (λ k. AreShares weigh (drop k ms) (map (share_of weigh measures.Bytes) (parted ns (drop n ms)))) (sym e) h)

  -- ---- one more share is weighed

  module _ (ss items : List Share) (i : ℕ) (s : Share) (left : List X) (within : i < length items) (here : s ≡ get_or items i s) (same : drop i items ≡ drop i ss)
      (enough : total (drop i (counts ss)) ≤ length left) where
    others_same : drop (i + 1) items ≡ drop (i + 1) ss
    others_same = sym (drop-drop 1 i items) ∙ ap (drop 1) same ∙ drop-drop 1 i ss

    counts_next : drop i (counts ss) ≡ s.count ∷ drop (i + 1) (counts ss)
    counts_next =
        drop-map (λ (s : Share). s.count) i ss
        ∙ ap counts (sym same ∙ drop_more items i s within ∙ ap (λ z. z ∷ drop (i + 1) items) (sym here) ∙ ap (λ zs. s ∷ zs) others_same)
        ∙ ap (λ ns. s.count ∷ ns) (sym (drop-map (λ (s : Share). s.count) (i + 1) ss))

    pub weighed-within : s.count ≤ length left
    weighed-within = omega (arith, enough, ap total counts_next)

    module _ (t : Share) (left' : List X) (fresh : t ≡ record { count = s.count; weight = Some (weight weigh (take s.count left)) }) (later : left' ≡ drop s.count left) where
      pub weighed-rest : drop (i + 1) (set items i t) ≡ drop (i + 1) ss
      weighed-rest = drop-set-lt (i + 1) items i t (omega arith) ∙ others_same

      pub weighed-enough : total (drop (i + 1) (counts ss)) ≤ length left'
      weighed-enough = omega (arith, enough, ap total counts_next, ap length later, length-drop s.count left)

      share_is : t ≡ share_of weigh measures.Bytes (take s.count left)
      share_is = fresh ∙ ap (λ n. record { count = n; weight = Some (weight weigh (take s.count left)) }) (sym (length-take-le s.count left weighed-within))

      pub weighed-done : (wanted : List Share) → take i items ++ map (share_of weigh measures.Bytes) (parted (drop i (counts ss)) left) ≡ wanted →
          take (i + 1) (set items i t) ++ map (share_of weigh measures.Bytes) (parted (drop (i + 1) (counts ss)) left') ≡ wanted
      weighed-done wanted w =
          let f = share_of weigh measures.Bytes in
          let more : List Share = map f (parted (drop (i + 1) (counts ss)) left') in
          ap (λ zs. zs ++ more) (take_more_set items i t within)
          ∙ append_assoc (take i items) (t ∷ []) more
          ∙ ap (λ z. take i items ++ z ∷ more) share_is
          ∙ ap (λ ms. take i items ++ f (take s.count left) ∷ map f (parted (drop (i + 1) (counts ss)) ms)) later
          ∙ sym (ap (λ ns. take i items ++ map f (parted ns left)) counts_next)
          ∙ w

  -- all are weighed
  pub weighed-all : (ss items : List Share) (i : ℕ) (left : List X) (wanted : List Share) → length items ≡ length ss → length items ≤ i →
      take i items ++ map (share_of weigh measures.Bytes) (parted (drop i (counts ss)) left) ≡ wanted → items ≡ wanted
  weighed-all ss items i left wanted e l w =
      let none : drop i (counts ss) ≡ [] = drop_all i (counts ss) (omega (arith, l, e, length-counts ss)) in
      sym (take_all i items l) ∙ sym (append-nil (take i items))
      ∙ sym (ap (λ ns. take i items ++ map (share_of weigh measures.Bytes) (parted ns left)) none) ∙ w
