-- The bounds between which a child is entered, and the keys that belong to it.
use Rattle.std.proofs.Common.{◌≡◌, ◌≤◌, ◌<◌, ◌+◌, Bor, ℕ, zero, suc, true, false, cond, List, [], ◌∷◌, length, slice_get, refl, sym, ap, ◌∙◌, true≢false, arith}
use Rattle.std.specs.declared.option.Option.{Option}
use Rattle.std.specs.declared.option.Option.TheVariants.{None, Some}
use Rattle.std.specs.Option.{is_none, option_copied, option_or}
use Rattle.bt_keycode.specs.Keys.{Key, is_before, is_before_lower, is_before_upper, is_between}
use Rattle.bt_read.specs.inside.Lookups.{first_place, pivots_up_to}
use Rattle.bt_form.specs.Parts.{AreRising}
use Rattle.bt_read.specs.inside.Bounds.{next_bound, where_before}
use Rattle.bt_keycode.proofs.offered.Order.{before_later, later_chain, not_after, not_before_itself}
use Rattle.bt_form.proofs.offered.rows.Between.{between_below, between_from}

-- ---- the pivots up to a key

-- at most all are
pub few_up_to : (k : Key) (ps : List Key) → pivots_up_to k ps ≤ length ps
few_up_to k [] = omega arith
few_up_to k (p ∷ ps) = elim (is_before k p) as (λ b. cond b 0 (suc (pivots_up_to k ps)) ≤ suc (length ps)) [
  | true ↦ omega arith
  | false ↦ omega (arith, few_up_to k ps)
]

-- no fewer are up to a larger key
no_fewer : (k q : Key) (ps : List Key) → is_before q k ≡ false → pivots_up_to k ps ≤ pivots_up_to q ps
no_fewer k q [] later = omega arith
no_fewer k q (p ∷ ps) later = elim (is_before k p) as (λ b. is_before k p ≡ b → cond b 0 (suc (pivots_up_to k ps)) ≤ cond (is_before q p) 0 (suc (pivots_up_to q ps))) [
  | true ↦ λ e. omega arith
  | false ↦ λ e.
      let here : pivots_up_to q (p ∷ ps) ≡ suc (pivots_up_to q ps) = ap (λ b. cond b 0 (suc (pivots_up_to q ps))) (later_chain p k q e later) in
      omega (arith, here, no_fewer k q ps later)
] refl

same_some : (p q : Key) → Some p ≡ Some q → p ≡ q
same_some p q e = cc e

-- the pivot after those up to a key is past it
next_past : (k p : Key) (ps : List Key) → slice_get ps (pivots_up_to k ps) ≡ Some p → is_before k p ≡ true
next_past k p [] is = absurd (cc is)
next_past k p (q ∷ qs) is = elim (is_before k q) as (λ b. is_before k q ≡ b → slice_get (q ∷ qs) (cond b 0 (suc (pivots_up_to k qs))) ≡ Some p → is_before k p ≡ true) [
  | true ↦ λ e at. ap (is_before k) (sym (same_some q p at)) ∙ e
  | false ↦ λ e at. next_past k p qs at
] refl is

-- rising keys without the first are rising
pub rest_rises : (p : Key) (ps : List Key) → AreRising (p ∷ ps) → AreRising ps
rest_rises p [] rising = tt
rest_rises p (q ∷ qs) rising = rising.1

none_up_to : (p : Key) (ps : List Key) → AreRising (p ∷ ps) → pivots_up_to p ps ≡ 0
none_up_to p [] rising = refl
none_up_to p (q ∷ qs) rising = ap (λ b. cond b 0 (suc (pivots_up_to p qs))) rising.0

first_not_past : (p q : Key) (ps : List Key) (i : ℕ) → AreRising (p ∷ ps) → slice_get ps i ≡ Some q → is_before q p ≡ false
first_not_past p q [] i rising at = absurd (cc at)
first_not_past p q (r ∷ rs) zero rising at = ap (λ x. is_before x p) (sym (same_some r q at)) ∙ not_after p r rising.0
first_not_past p q (r ∷ rs) (suc i) rising at = later_chain p r q (not_after p r rising.0) (first_not_past r q rs i rising.1 at)

-- the pivots up to a pivot are those before its place, and itself
pub up_to_pivot : (p : Key) (ps : List Key) (i : ℕ) → AreRising ps → slice_get ps i ≡ Some p → pivots_up_to p ps ≡ suc i
up_to_pivot p [] i rising at = absurd (cc at)
up_to_pivot p (q ∷ qs) zero rising at =
    let same = same_some q p at in
    ap (λ x. pivots_up_to x (q ∷ qs)) (sym same) ∙ ap (λ b. cond b 0 (suc (pivots_up_to q qs))) (not_before_itself q) ∙ ap suc (none_up_to q qs rising)
up_to_pivot p (q ∷ qs) (suc i) rising at =
    ap (λ b. cond b 0 (suc (pivots_up_to p qs))) (first_not_past q p qs i rising at) ∙ ap suc (up_to_pivot p qs i (rest_rises q qs rising) at)

-- no more than its place are up to a key before a pivot
no_more : (q p : Key) (ps : List Key) (i : ℕ) → slice_get ps i ≡ Some p → is_before q p ≡ true → pivots_up_to q ps ≤ i
no_more q p [] i at before = omega arith
no_more q p (r ∷ rs) zero at before = omega (arith, ap (λ b. cond b 0 (suc (pivots_up_to q rs))) (ap (is_before q) (same_some r p at) ∙ before))
no_more q p (r ∷ rs) (suc i) at before = elim (is_before q r) as (λ b. cond b 0 (suc (pivots_up_to q rs)) ≤ suc i) [
  | true ↦ omega arith
  | false ↦ omega (arith, no_more q p rs i at before)
]

none_there : (ps : List Key) (i : ℕ) → slice_get ps i ≡ None → length ps ≤ i
none_there [] i none = omega arith
none_there (p ∷ ps) zero none = absurd (cc none)
none_there (p ∷ ps) (suc i) none = omega (arith, none_there ps i none)

one_there : (p : Key) (ps : List Key) (i : ℕ) → slice_get ps i ≡ Some p → i < length ps
one_there p [] i at = absurd (cc at)
one_there p (q ∷ qs) zero at = omega arith
one_there p (q ∷ qs) (suc i) at = omega (arith, one_there p qs i at)

-- ---- bounds

no_fewer_from : (low : Option Key) (q : Key) (ps : List Key) → is_before_lower low q ≡ false → first_place low ps ≤ pivots_up_to q ps
no_fewer_from None q ps from = omega arith
no_fewer_from (Some k) q ps from = no_fewer k q ps from

no_more_below : (to : Option Key) (ps : List Key) (place : ℕ) (q : Key) (at : Option Key) → slice_get ps place ≡ at
    → is_before_upper (option_or (where_before to at) to) q ≡ true → pivots_up_to q ps ≤ place
no_more_below to ps place q None none below = omega (arith, none_there ps place none, few_up_to q ps)
no_more_below to ps place q (Some p) is below =
    elim (is_before_upper to p) as (λ b. is_before_upper to p ≡ b → is_before_upper (option_or (cond b (Some p) None) to) q ≡ true
    → pivots_up_to q ps ≤ place) [
      | true ↦ λ e before. no_more q p ps place is before
      | false ↦ λ e before. no_more q p ps place is (under to e before)
    ] refl below
  where
    under : (to : Option Key) → is_before_upper to p ≡ false → is_before_upper to q ≡ true → is_before q p ≡ true
    under None e before = absurd (true≢false e)
    under (Some t) e before = before_later q t p before e

-- the keys between the bounds of a child belong to it
pub belongs : (low to next high : Option Key) (ps : List Key) (place : ℕ) (q : Key) → place ≡ first_place low ps → next ≡ next_bound to place ps → high ≡ option_or next to →
    is_between low high q ≡ true → place ≡ pivots_up_to q ps
belongs low to next high ps place q begins is_next is_high inside =
    let from = no_fewer_from low q ps (between_from low high q inside) in
    let upper = ap (λ h. is_before_upper h q) (sym (is_high ∙ ap (λ n. option_or n to) is_next)) ∙ between_below low high q inside in
    let below = no_more_below to ps place q (slice_get ps place) refl upper in
    omega (arith, begins, from, below)

-- ---- the next pivot, if it is before the upper bound

next_is : (to : Option Key) (p : Key) (at : Option Key) → where_before to at ≡ Some p → (at ≡ Some p) × (is_before_upper to p ≡ true)
next_is to p None is = absurd (cc is)
next_is to p (Some k) is = elim (is_before_upper to k) as (λ b. is_before_upper to k ≡ b → cond b (Some k) None ≡ Some p → (Some k ≡ Some p) × (is_before_upper to p ≡ true)) [
  | true ↦ λ e at. (at, ap (is_before_upper to) (sym (same_some k p at)) ∙ e)
  | false ↦ λ e at. absurd (cc at)
] refl is

module _ (low to : Option Key) (p : Key) (ps : List Key) (place : ℕ) (is : next_bound to place ps ≡ Some p) where
  next_there : slice_get ps place ≡ Some p
  next_there = (next_is to p (slice_get ps place) is).0

  pub next_below : is_before_upper to p ≡ true
  next_below = (next_is to p (slice_get ps place) is).1

  pub next_within : place < length ps
  next_within = one_there p ps place next_there

  pub next_begins : AreRising ps → place + 1 ≡ first_place (Some p) ps
  next_begins rising = omega (arith, up_to_pivot p ps place rising next_there)

  pub next_from : place ≡ first_place low ps → is_before_lower low p ≡ false
  next_from begins = go low begins
    where
      go : (l : Option Key) → place ≡ first_place l ps → is_before_lower l p ≡ false
      go None b = refl
      go (Some k) b = not_after k p (next_past k p ps (ap (slice_get ps) (sym b) ∙ next_there))

-- copies of a choice are a choice of copies
pub or_copied : (a b : Option (Bor Key)) → option_copied (option_or a b) ≡ option_or (option_copied a) (option_copied b)
or_copied None b = refl
or_copied (Some a) b = refl

-- a bound that isn't absent is a key
pub present : (a : Option (Bor Key)) → is_none a ≡ false → (p : Key) × (option_copied a ≡ Some p)
present None e = absurd (true≢false e)
present (Some a) e = (a.now, refl)
