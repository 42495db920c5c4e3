-- Emptying the fullest repeatedly gives the plan.
use Rattle.std.proofs.Common.{◌≡◌, ℕ, suc, ◌+◌, ◌<◌, ◌≤◌, Bool, true, false, nat_le, cond, ltb, List, [], ◌∷◌, length, get_or, set, refl, sym, ap, ◌∙◌, arith, inl, inr}
use Rattle.std.proofs.lemmas.Bool.{leb-true, leb-false, le-leb, lt-leb, cond-true, cond-false, lt-ltb, le-ltb}
use Rattle.std.proofs.lemmas.List.{get_or_past}
use Rattle.bt_form.specs.Plans.{total, most, fullest, planned}
use Rattle.bt_form.proofs.offered.plans.RenewedChoice.{le_or_lt, nothing, most-here, most-later, fullest-here, fullest-later, total-rest, renewed-planned}

-- ---- the fullest

-- the fullest from place k on, if n is the most so far, at the place `best`
abbrev pub fullest_from : ℕ → ℕ → ℕ → List ℕ → ℕ
fullest_from best n k [] = best
fullest_from best n k (m ∷ ms) = cond (ltb n m) (fullest_from k m (suc k) ms) (fullest_from best n (suc k) ms)

from-under : (best n k : ℕ) (ms : List ℕ) → most ms ≤ n → fullest_from best n k ms ≡ best
from-under best n k [] l = refl
from-under best n k (m ∷ ms) l = cond-false _ _ _ (le-ltb n m (omega arith)) ∙ from-under best n (suc k) ms (omega arith)

from-over : (best n k : ℕ) (ms : List ℕ) → n < most ms → fullest_from best n k ms ≡ k + fullest ms
from-over best n k [] l = absurd (omega arith)
from-over best n k (m ∷ ms) l = elim (le_or_lt m n) [
  | inl low ↦ cond-false _ _ _ (le-ltb n m low) ∙ from-over best n (suc k) ms (omega arith) ∙ omega (arith, fullest-later m ms (omega arith))
  | inr high ↦ cond-true _ _ _ (lt-ltb n m high) ∙ elim (le_or_lt (most ms) m) [
    | inl here ↦ from-under k m (suc k) ms here ∙ omega (arith, fullest-here m ms here)
    | inr later ↦ from-over k m (suc k) ms later ∙ omega (arith, fullest-later m ms later)
  ]
]

fullest-none : (ms : List ℕ) → most ms ≤ 0 → fullest ms ≡ 0
fullest-none [] l = refl
fullest-none (m ∷ ms) l = fullest-here m ms (omega arith)

pub fullest_from-start : (ms : List ℕ) → fullest ms ≡ fullest_from 0 0 0 ms
fullest_from-start ms = elim (le_or_lt (most ms) 0) [
  | inl none ↦ fullest-none ms none ∙ sym (from-under 0 0 0 ms none)
  | inr some ↦ sym (from-over 0 0 0 ms some ∙ omega arith)
]

-- the fullest has the most
pub get_or-fullest : (ns : List ℕ) → get_or ns (fullest ns) 0 ≡ most ns
get_or-fullest [] = refl
get_or-fullest (n ∷ ns) = elim (le_or_lt (most ns) n) [
  | inl here ↦ ap (λ i. get_or (n ∷ ns) i 0) (fullest-here n ns here) ∙ sym (most-here n ns here)
  | inr later ↦ ap (λ i. get_or (n ∷ ns) i 0) (fullest-later n ns later) ∙ get_or-fullest ns ∙ sym (most-later n ns later)
]

-- no place past the end has a load above 0
place-below : (ns : List ℕ) (i : ℕ) → 0 < get_or ns i 0 → i < length ns
place-below ns i l = elim (le_or_lt (length ns) i) [ inl past ↦ absurd (omega (arith, get_or_past ns i 0 past)) | inr h ↦ h ]

-- ---- one step

heavy : (ns : List ℕ) (capacity : ℕ) → capacity < total ns → 0 < most ns
heavy ns capacity over = elim (le_or_lt (most ns) 0) [ inl none ↦ omega (arith, nothing ns (omega arith)) | inr h ↦ h ]

pub fullest-below : (ns : List ℕ) (capacity : ℕ) → capacity < total ns → fullest ns < length ns
fullest-below ns capacity over = place-below ns (fullest ns) (omega (arith, get_or-fullest ns, heavy ns capacity over))

pub fullest-some : (ns : List ℕ) (capacity : ℕ) → capacity < total ns → 0 < get_or ns (fullest ns) 0
fullest-some ns capacity over = omega (arith, get_or-fullest ns, heavy ns capacity over)

-- when the fullest is emptied, the loads of the others are left
pub total-emptied : (ns : List ℕ) (capacity : ℕ) → capacity < total ns → get_or ns (fullest ns) 0 + total (set ns (fullest ns) 0) ≡ total ns
total-emptied ns capacity over = omega (arith, get_or-fullest ns, total-rest ns (heavy ns capacity over))

-- nothing is planned if the loads are within the capacity
pub planned-within : (ns : List ℕ) (capacity : ℕ) → total ns ≤ capacity → planned ns capacity ≡ []
planned-within ns capacity within = sym (renewed-planned capacity (suc (total ns)) ns (omega arith)) ∙ cond-true _ _ _ (le-leb _ _ within)

-- over capacity, the fullest is planned first, and then what is planned without it
pub planned-over : (ns : List ℕ) (capacity : ℕ) → capacity < total ns → planned ns capacity ≡ fullest ns ∷ planned (set ns (fullest ns) 0) capacity
planned-over ns capacity over =
    sym (renewed-planned capacity (suc (total ns)) ns (omega arith))
    ∙ cond-false _ _ _ (lt-leb _ _ over)
    ∙ ap (λ is. fullest ns ∷ is) (renewed-planned capacity (total ns) (set ns (fullest ns) 0) (omega (arith, total-emptied ns capacity over)))

-- a step, at place i
pub record Turn (ns : List ℕ) (capacity i : ℕ) : Type 0 where
  pub over : capacity < total ns
  pub place : i ≡ fullest ns

-- the code's test whether the loads are within the capacity
pub none_planned : (ns : List ℕ) (capacity : ℕ) (test : Bool) → test ≡ true → test ≡ nat_le (total ns) capacity → planned ns capacity ≡ []
none_planned ns capacity test within is = planned-within ns capacity (leb-true _ _ (sym is ∙ within))

pub turn_taken : (ns : List ℕ) (capacity place : ℕ) (test : Bool) → test ≡ false → test ≡ nat_le (total ns) capacity → place ≡ fullest ns → Turn ns capacity place
turn_taken ns capacity place test past is fullest_there = record { over = leb-false _ _ (sym is ∙ past); place = fullest_there }

module _ (ns : List ℕ) (capacity place : ℕ) (turn : Turn ns capacity place) where
  -- its place is that of a child
  pub turn-below : place < length ns
  turn-below = omega (arith, turn.place, fullest-below ns capacity turn.over)

  -- less is pending then
  pub turn-less : total (set ns place 0) < total ns
  turn-less = rw turn.place (omega (arith, total-emptied ns capacity turn.over, fullest-some ns capacity turn.over))

  -- the place comes before those that are planned without it
  pub turn-planned : place ∷ planned (set ns place 0) capacity ≡ planned ns capacity
  turn-planned = rw turn.place (sym (planned-over ns capacity turn.over))
