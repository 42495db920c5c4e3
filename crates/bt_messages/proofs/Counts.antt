-- Counts of the front of a stream.
use Rattle.std.proofs.Common.{◌≡◌, ℕ, ◌+◌, ◌-◌, ◌≤◌, ◌<◌, List, [], ◌∷◌, ◌++◌, append_assoc, get_or, length, map, take, drop, refl, sym, ap, ◌∙◌, arith}
use Rattle.std.proofs.lemmas.List.{drop-drop, drop-take, drop_more, map-append}
use Rattle.bt_message.specs.Messages.{Messages, messages_before, messages_from}
use Rattle.bt_messages.specs.Bins.{parts}
use Rattle.bt_messages.specs.Parts.{parted, total}
use Rattle.bt_messages.specs.Shares.{counts}
use Rattle.bt_messages.specs.declared.share.Share.{Share}
use Rattle.bt_messages.specs.inside.Sums.{counted}

-- the parts of these sizes, from a place on
abbrev pub sliced : {M : Type 0} → ℕ → List ℕ → Messages M → List (Messages M)
sliced from [] ms = []
sliced from (n ∷ ns) ms = drop from (take (from + n) ms) ∷ sliced (from + n) ns ms

pub total-push : (ns : List ℕ) (n : ℕ) → total (ns ++ n ∷ []) ≡ total ns + n
total-push [] n = omega arith
total-push (x ∷ xs) n = omega (arith, total-push xs n)

-- one share more
pub counts-push : (ss more : List Share) (s : Share) → more ≡ ss ++ s ∷ [] → (n : ℕ) → s ≡ counted n → counts more ≡ counts ss ++ n ∷ []
counts-push ss more s e n f = ap counts e ∙ map-append (λ (s : Share). s.count) ss (s ∷ []) ∙ ap (λ (s : Share). counts ss ++ s.count ∷ []) f

pub one_counted : (ss more : List Share) (s : Share) → more ≡ ss ++ s ∷ [] → (n : ℕ) → s ≡ counted n → ss ≡ map counted (counts ss) → more ≡ map counted (counts more)
one_counted ss more s e n f h =
    e ∙ ap (λ z. ss ++ z ∷ []) f ∙ ap (λ zs. zs ++ counted n ∷ []) h ∙ sym (map-append counted (counts ss) (n ∷ [])) ∙ ap (map counted) (sym (counts-push ss more s e n f))

module _ {M : Type 0} where
  pub sliced-parted : (from : ℕ) (ns : List ℕ) (ms : Messages M) → sliced from ns ms ≡ parted ns (drop from ms)
  sliced-parted from [] ms = refl
  sliced-parted from (n ∷ ns) ms =
      ap (λ z. z ∷ sliced (from + n) ns ms) (drop-take from n ms)
      ∙ ap (λ zs. take n (drop from ms) ∷ zs) (sliced-parted (from + n) ns ms ∙ ap (parted ns) (sym (drop-drop n from ms)))

  sliced-push : (from : ℕ) (ns : List ℕ) (n start end : ℕ) (ms : Messages M) → from + total ns ≡ start → start + n ≡ end →
      sliced from (ns ++ n ∷ []) ms ≡ sliced from ns ms ++ drop start (take end ms) ∷ []
  sliced-push from [] n start end ms e f =
      let same : from ≡ start = omega (arith, e) in
      ap (λ k. drop k (take (k + n) ms) ∷ []) same ∙ ap (λ k. drop start (take k ms) ∷ []) f
  sliced-push from (x ∷ xs) n start end ms e f = ap (λ zs. drop from (take (from + x) ms) ∷ zs) (sliced-push (from + x) xs n start end ms (omega (arith, e)) f)

  -- the messages of a front from a place on are divided by the pivot at this place
  pub record AreDivided (ks : List (List ℕ)) (i first place count : ℕ) (ms : Messages M) : Type 0 where
    pub pivot : List ℕ
    pub within : i < length ks
    pub is : pivot ≡ get_or ks i pivot
    pub low : first ≤ place
    pub before : messages_before pivot (drop first (take count ms)) ≡ drop first (take place ms)
    pub from : messages_from pivot (drop first (take count ms)) ≡ drop place (take count ms)

  -- one more pivot
  pub counted_next : {ks : List (List ℕ)} {i first place count : ℕ} {ms : Messages M} (counts : List ℕ) {next : List ℕ} {wanted : List (Messages M)} →
      AreDivided ks i first place count ms → total counts ≡ first → next ≡ counts ++ (place - first) ∷ [] →
      sliced 0 counts ms ++ parts (drop i ks) (drop first (take count ms)) ≡ wanted → sliced 0 next ms ++ parts (drop (i + 1) ks) (drop place (take count ms)) ≡ wanted
  counted_next {ks} {i} {first} {place} {count} {ms} counts part t p w =
      let rest = drop (i + 1) ks in
      let front = drop first (take count ms) in
      let after = drop place (take count ms) in
      let step : drop i ks ≡ part.pivot ∷ rest = drop_more ks i part.pivot part.within ∙ ap (λ k. k ∷ rest) (sym part.is) in
      ap (λ zs. sliced 0 zs ms ++ parts rest after) p
      ∙ ap (λ zs. zs ++ parts rest after) (sliced-push 0 counts (place - first) first place ms (omega (arith, t)) (omega (arith, part.low)))
      ∙ append_assoc (sliced 0 counts ms) (drop first (take place ms) ∷ []) (parts rest after)
      ∙ ap (λ z. sliced 0 counts ms ++ z ∷ parts rest after) (sym part.before)
      ∙ ap (λ z. sliced 0 counts ms ++ messages_before part.pivot front ∷ parts rest z) (sym part.from)
      ∙ sym (ap (λ ks. sliced 0 counts ms ++ parts ks front) step)
      ∙ w

  -- the last part
  pub counted_all : (ks : List (List ℕ)) (counts next : List ℕ) (from count : ℕ) (ms : Messages M) (wanted : List (Messages M)) →
      ks ≡ [] → total counts ≡ from → from ≤ count → next ≡ counts ++ (count - from) ∷ [] →
      sliced 0 counts ms ++ parts ks (drop from (take count ms)) ≡ wanted → parted next ms ≡ wanted
  counted_all ks counts next from count ms wanted none t l p w =
      ap (λ ns. parted ns ms) p ∙ sym (sliced-parted 0 (counts ++ (count - from) ∷ []) ms)
      ∙ sliced-push 0 counts (count - from) from count ms (omega (arith, t)) (omega (arith, l))
      ∙ sym (ap (λ zs. sliced 0 counts ms ++ parts zs (drop from (take count ms))) none)
      ∙ w
