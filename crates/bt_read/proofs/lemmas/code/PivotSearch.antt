-- A search for a key among rising pivots.
use Rattle.std.proofs.Common.{◌≡◌, ◌<◌, ◌≤◌, ℕ, zero, suc, Bool, true, false, not, cond, List, [], ◌∷◌, get_or, length, map, drop, refl, sym, ap, subst, ◌∙◌, arith}
use Rattle.std.specs.List.Sorted.{IsPartitionedBy, IsPartitionPoint}
use Rattle.std.specs.declared.option.Option.{Option}
use Rattle.std.specs.declared.option.Option.TheVariants.{Some}
use Rattle.bt_keycode.specs.Keys.{Key, SideBySide, is_before}
use Rattle.bt_form.specs.Fits.{IsInOrder}
use Rattle.bt_read.specs.inside.Lookups.{pivots_up_to}
use Rattle.bt_form.specs.Messages.{Messages}
use Rattle.bt_form.specs.Parts.{AreRising}
use Rattle.bt_form.specs.Trees.{Siblings, Tree, inner, nodes}
use Rattle.bt_keycode.proofs.offered.Order.{later_chain, not_after, not_before_itself}
use Rattle.bt_read.proofs.lemmas.code.ChildBounds.{rest_rises}
use Rattle.bt_read.proofs.offered.RowsOfChildren.{siblings_lie}

not_before_first : (p : Key) (ps : List Key) (j : ℕ) (d : Key) → AreRising (p ∷ ps) → j < length ps → is_before (get_or ps j d) p ≡ false
not_before_first p [] j d rising within = absurd (omega (arith, within))
not_before_first p (q ∷ qs) zero d rising within = not_after p q rising.0
not_before_first p (q ∷ qs) (suc j) d rising within = later_chain p q (get_or qs j d) (not_after p q rising.0) (not_before_first q qs j d rising.1 (omega (arith, within)))

in_order : (ps : List Key) (i j : ℕ) (d : Key) → AreRising ps → i ≤ j → j < length ps → is_before (get_or ps j d) (get_or ps i d) ≡ false
in_order [] i j d rising up within = absurd (omega (arith, within))
in_order (p ∷ ps) zero zero d rising up within = not_before_itself p
in_order (p ∷ ps) zero (suc j) d rising up within = not_before_first p ps j d rising (omega (arith, within))
in_order (p ∷ ps) (suc i) zero d rising up within = absurd (omega (arith, up))
in_order (p ∷ ps) (suc i) (suc j) d rising up within = in_order ps i j d (rest_rises p ps rising) (omega (arith, up)) (omega (arith, within))

-- whether a pivot is at most a key
abbrev pub is_up_to : Key → Key → Bool
is_up_to k p = not (is_before k p)

not_true : (b : Bool) → not b ≡ true → b ≡ false
not_true true e = cc e
not_true false e = refl

not_false : (b : Bool) → not b ≡ false → b ≡ true
not_false true e = refl
not_false false e = cc e

-- those that are at most a key come first
pub parted : (k : Key) (ps : List Key) → AreRising ps → IsPartitionedBy (is_up_to k) ps
parted k ps rising i j d up within at_most =
    ap not (later_chain (get_or ps i d) (get_or ps j d) k (in_order ps i j d rising up within) (not_true _ at_most))

-- there are as many of them as are counted
pub point_is : (k : Key) (ps : List Key) (n : ℕ) → n ≤ length ps → IsPartitionPoint (λ p. is_up_to k p ≡ true) (λ p. is_up_to k p ≡ false) ps n → n ≡ pivots_up_to k ps
point_is k [] zero few point = refl
point_is k [] (suc n) few point = absurd (omega (arith, few))
point_is k (p ∷ ps) zero few point = sym (ap (λ b. cond b 0 (suc (pivots_up_to k ps))) (not_false _ (point.1 0 p (omega arith) (omega arith))))
point_is k (p ∷ ps) (suc n) few point =
    let others = point_is k ps n (omega (arith, few)) ((λ i d l m. point.0 (suc i) d (omega arith) (omega (arith, m))), (λ i d l m. point.1 (suc i) d (omega (arith, l)) (omega (arith, m)))) in
    ap suc others ∙ sym (ap (λ b. cond b 0 (suc (pivots_up_to k ps))) (not_true _ (point.0 0 p (omega arith) (omega arith))))

-- ---- the pivots of a node

rise : {X : Type 0} (Reaches : Option Key → Option Key → Key × X → Type 0) (low high : Option Key) (x : Key × X) (xs : List (Key × X)) →
    SideBySide (λ y. y.0) Reaches low high (x ∷ xs) → AreRising (map (λ y. y.0) xs)
rise Reaches low high x [] side = tt
rise Reaches low high x (y ∷ []) side = tt
rise Reaches low high x (y ∷ z ∷ zs) side = (side.3.0, rise Reaches (Some y.0) high y (z ∷ zs) side.3)

rise_after : {X : Type 0} (Reaches : Option Key → Option Key → Key × X → Type 0) (low high : Option Key) (xs : List (Key × X)) →
    SideBySide (λ y. y.0) Reaches low high xs → AreRising (map (λ y. y.0) (drop 1 xs))
rise_after Reaches low high [] side = tt
rise_after Reaches low high (x ∷ xs) side = rise Reaches low high x xs side

-- the pivots of a node in order rise
pub pivots_rise : {V M : Type 0} (t : Tree V M) (xs : Siblings V M) (buffer : Messages M) (ps : List Key) → t ≡ inner (nodes xs) buffer → ps ≡ map (λ y. y.0) (drop 1 xs) → IsInOrder t → AreRising ps
pivots_rise t xs buffer ps here pivots order =
    let side = siblings_lie t xs buffer here order in
    subst AreRising (sym pivots) (rise_after _ side.1 side.2 xs side.3)
