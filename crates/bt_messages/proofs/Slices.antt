-- Slices of sorted messages.
use Rattle.std.proofs.Common.{◌≡◌, ℕ, zero, suc, ◌<◌, ◌≤◌, true, false, List, [], ◌∷◌, ◌++◌, ◌+◌, ◌-◌, append_assoc, length, take, drop, get_or, refl, sym, ap, subst, ◌∙◌, arith}
use Rattle.std.specs.List.Sorted.{IsPartitionPoint}
use Rattle.bt_keycode.specs.Keys.{AllFrom, IsSorted, is_before}
use Rattle.bt_message.specs.Messages.{Messages, messages_before, messages_from}
use Rattle.bt_messages.specs.Bins.{AllBefore}
use Rattle.bt_messages.proofs.offered.Fronts.{from-take}
use Rattle.bt_messages.proofs.offered.Parts.{cut_at}

module _ {M : Type 0} where
  all_from : (k : List ℕ) (ms : Messages M) → ((j : ℕ) (d : List ℕ × M) → 0 ≤ j → j < length ms → is_before (get_or ms j d).0 k ≡ false) → AllFrom k ms
  all_from k [] h = tt
  all_from k (m ∷ ms) h = (h 0 m (omega arith) (omega arith), all_from k ms (λ j d l n. h (suc j) d (omega arith) (omega arith)))

  -- the place at which a test of keys changes from true to false
  pub sides : (k : List ℕ) (ms : Messages M) (n : ℕ) → IsPartitionPoint (λ (m : List ℕ × M). is_before m.0 k ≡ true) (λ (m : List ℕ × M). is_before m.0 k ≡ false) ms n →
      AllBefore k (take n ms) × AllFrom k (drop n ms)
  sides k ms zero h = (tt, all_from k ms h.1)
  sides k [] (suc n) h = (tt, tt)
  sides k (m ∷ ms) (suc n) h =
      let others = sides k ms n ((λ j d l i. h.0 (suc j) d (omega arith) (omega arith)), (λ j d l i. h.1 (suc j) d (omega arith) (omega arith))) in
      ((h.0 0 m (omega arith) (omega arith), others.0), others.1)

  before-take : (k : List ℕ) (n p : ℕ) (ms : Messages M) → n ≤ p → AllBefore k (take p ms) → AllBefore k (take n ms)
  before-take k zero p ms l h = tt
  before-take k (suc n) zero ms l h = absurd (omega (arith, l))
  before-take k (suc n) (suc p) [] l h = tt
  before-take k (suc n) (suc p) (m ∷ ms) l h = (h.0, before-take k n p ms (omega (arith, l)) h.1)

  before-drop : (k : List ℕ) (n : ℕ) (ms : Messages M) → AllBefore k ms → AllBefore k (drop n ms)
  before-drop k zero ms h = h
  before-drop k (suc n) [] h = tt
  before-drop k (suc n) (m ∷ ms) h = before-drop k n ms h.1

  from-drop : (k : List ℕ) (p n : ℕ) (ms : Messages M) → p ≤ n → AllFrom k (drop p ms) → AllFrom k (drop n ms)
  from-drop k zero zero ms l h = h
  from-drop k zero (suc n) [] l h = tt
  from-drop k zero (suc n) (m ∷ ms) l h = from-drop k zero n ms (omega arith) h.1
  from-drop k (suc p) zero ms l h = absurd (omega (arith, l))
  from-drop k (suc p) (suc n) [] l h = tt
  from-drop k (suc p) (suc n) (m ∷ ms) l h = from-drop k p n ms (omega (arith, l)) h

  from-slice : (k : List ℕ) (d n : ℕ) (ms : Messages M) → AllFrom k (drop d ms) → AllFrom k (drop d (take n ms))
  from-slice k zero n ms h = from-take k n ms h
  from-slice k (suc d) zero ms h = tt
  from-slice k (suc d) (suc n) [] h = tt
  from-slice k (suc d) (suc n) (m ∷ ms) h = from-slice k d n ms h

  pub no_slice : (d : ℕ) (ms : Messages M) → drop d (take d ms) ≡ []
  no_slice zero ms = refl
  no_slice (suc d) [] = refl
  no_slice (suc d) (m ∷ ms) = no_slice d ms

  -- a slice is cut in two
  pub cut_slice : (d p n : ℕ) (ms : Messages M) → d ≤ p → p ≤ n → drop d (take n ms) ≡ drop d (take p ms) ++ drop p (take n ms)
  cut_slice zero zero n ms l h = refl
  cut_slice zero (suc p) zero ms l h = absurd (omega (arith, h))
  cut_slice zero (suc p) (suc n) [] l h = refl
  cut_slice zero (suc p) (suc n) (m ∷ ms) l h = ap (λ zs. m ∷ zs) (cut_slice zero p n ms (omega arith) (omega (arith, h)))
  cut_slice (suc d) zero n ms l h = absurd (omega (arith, l))
  cut_slice (suc d) (suc p) zero ms l h = absurd (omega (arith, h))
  cut_slice (suc d) (suc p) (suc n) [] l h = refl
  cut_slice (suc d) (suc p) (suc n) (m ∷ ms) l h = cut_slice d p n ms (omega (arith, l)) (omega (arith, h))

  abbrev pub CutsAt : List ℕ → ℕ → ℕ → ℕ → Messages M → Type 0
  CutsAt k d n p ms = (messages_before k (drop d (take n ms)) ≡ drop d (take p ms)) × (messages_from k (drop d (take n ms)) ≡ drop p (take n ms))

  cuts : (k : List ℕ) (d p n : ℕ) (ms : Messages M) → d ≤ p → p ≤ n → AllBefore k (drop d (take p ms)) → AllFrom k (drop p (take n ms)) → CutsAt k d n p ms
  cuts k d p n ms l h b f =
      let both = cut_at k (drop d (take p ms)) (drop p (take n ms)) b f in
      let cut = cut_slice d p n ms l h in
      (ap (messages_before k) cut ∙ both.0, ap (messages_from k) cut ∙ both.1)

  -- the place is in the slice
  pub cuts_in : (k : List ℕ) (d n place : ℕ) (ms : Messages M) → d ≤ place → place ≤ n → AllBefore k (take place ms) → AllFrom k (drop place ms) → CutsAt k d n place ms
  cuts_in k d n place ms l h b f = cuts k d place n ms l h (before-drop k d (take place ms) b) (from-slice k place n ms f)

  -- it is before the slice
  pub cuts_low : (k : List ℕ) (d n place : ℕ) (ms : Messages M) → d ≤ n → place ≤ d → AllFrom k (drop place ms) → CutsAt k d n d ms
  cuts_low k d n place ms l h f = cuts k d d n ms (omega arith) l (subst (AllBefore k) (sym (no_slice d ms)) tt) (from-slice k d n ms (from-drop k place d ms h f))

  -- it is after the slice
  pub cuts_high : (k : List ℕ) (d n place : ℕ) (ms : Messages M) → d ≤ n → n ≤ place → AllBefore k (take place ms) → CutsAt k d n n ms
  cuts_high k d n place ms l h b = cuts k d n n ms l (omega arith) (before-drop k d (take n ms) (before-take k n place ms h b)) (subst (AllFrom k) (sym (no_slice n ms)) tt)

  -- ---- messages moved from the front

  pub moved_on : (into more : Messages M) (m : List ℕ × M) (ms rest : Messages M) (n i : ℕ) → i < n → ms ≡ m ∷ rest → more ≡ into ++ m ∷ [] →
      (more ++ take (n - (i + 1)) rest ≡ into ++ take (n - i) ms) × (drop (n - (i + 1)) rest ≡ drop (n - i) ms)
  moved_on into more m ms rest n i l e p =
      let one : n - i ≡ suc (n - (i + 1)) = omega (arith, l) in (
        ap (λ zs. zs ++ take (n - (i + 1)) rest) p ∙ append_assoc into (m ∷ []) (take (n - (i + 1)) rest)
            ∙ sym (ap (λ k. into ++ take k ms) one ∙ ap (λ zs. into ++ take (suc (n - (i + 1))) zs) e),
        sym (ap (λ k. drop k ms) one ∙ ap (drop (suc (n - (i + 1)))) e),
      )

  pub sorted_drop : (n : ℕ) (ms : Messages M) → IsSorted ms → IsSorted (drop n ms)
  sorted_drop zero ms h = h
  sorted_drop (suc n) [] h = tt
  sorted_drop (suc n) (m ∷ ms) h = sorted_drop n ms h.1
