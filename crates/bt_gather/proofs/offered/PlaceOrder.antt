-- The order of places, and rising places.
use Rattle.std.proofs.Common.{◌≡◌, ℕ, zero, suc, true, false, cond, List, [], ◌∷◌, map, set, refl, sym, ap, ◌∙◌}
use Rattle.std.proofs.lemmas.Bool.{and_parts}
use Rattle.std.specs.Cmp.{IsTotalOrder, tied_itself}
use Rattle.std.specs.FinMap.{nat_cmp-IsAntisymmetric, slice_cmp-IsAntisymmetric}
use Rattle.std.specs.FinMap.Entries.{below_all}
use Rattle.std.specs.List.{slice_get}
use Rattle.std.specs.Ordering.{is_eq, ordering_reverse}
use Rattle.std.specs.declared.cmp.Ordering.TheVariants.{Equal, Less}
use Rattle.std.specs.declared.option.Option.TheVariants.{Some}
use Rattle.std.proofs.lemmas.Option.{none-some, same_Some}
use Rattle.bt_keycode.specs.Keys.{Key}
use Rattle.bt_keycode.proofs.offered.Order.{is_less, total_keys}
use Rattle.bt_keycode.proofs.offered.Truths.{t_true, true_t}
use Rattle.bt_plan.specs.Pieces.{Place, node_place_cmp}
use Rattle.bt_gather.specs.Misfits.{AreRisingPlaces}

-- ---- two places

-- the numbers by which a place is ordered
abbrev numbers : Place → Key
numbers p = p.tree ∷ p.path

place_by : Key → Place
place_by [] = record { tree = 0; path = [] }
place_by (n ∷ ns) = record { tree = n; path = ns }

pub total_places : IsTotalOrder node_place_cmp
total_places = record {
  antisymm = λ p q. total_keys.antisymm (numbers p) (numbers q);
  trans = λ p q r. total_keys.trans (numbers p) (numbers q) (numbers r);
  congr = λ p q r. total_keys.congr (numbers p) (numbers q) (numbers r);
}

-- places that tie are equal
pub same_place : (p q : Place) → node_place_cmp p q ≡ Equal → p ≡ q
unfolding place_by
same_place p q e = ap place_by (slice_cmp-IsAntisymmetric nat_cmp-IsAntisymmetric (numbers p) (numbers q) e)

pub ties_itself : (p : Place) → is_eq (node_place_cmp p p) ≡ true
ties_itself p = ap is_eq (tied_itself total_places p)

-- a place and an earlier one
pub not_earlier : (p q : Place) → node_place_cmp p q ≡ Less → is_eq (node_place_cmp q p) ≡ false
not_earlier p q less = ap is_eq (total_places.antisymm q p ∙ ap ordering_reverse less)

-- ---- rising places

-- a place is before each of these
abbrev pub IsBelow : Place → List Place → Type 0
IsBelow p hs = below_all node_place_cmp p (map (λ h. (h, h)) hs) ≡ true

pub below_parts : (p h : Place) (hs : List Place) → IsBelow p (h ∷ hs) → (node_place_cmp p h ≡ Less) × IsBelow p hs
below_parts p h hs b = let parts = and_parts _ _ b in (is_less _ parts.0, parts.1)

pub rising_parts : (h : Place) (hs : List Place) → AreRisingPlaces (h ∷ hs) → IsBelow h hs × AreRisingPlaces hs
rising_parts h hs r = let parts = and_parts _ _ (true_t _ r) in (parts.0, t_true _ parts.1)

-- a place that is before all is before the one at this position
pub below_one : (p : Place) (hs : List Place) (i : ℕ) (q : Place) → IsBelow p hs → slice_get hs i ≡ Some q → node_place_cmp p q ≡ Less
below_one p [] i q b at = absurd (none-some q at)
below_one p (h ∷ hs) zero q b at = ap (node_place_cmp p) (sym (same_Some h q at)) ∙ (below_parts p h hs b).0
below_one p (h ∷ hs) (suc i) q b at = below_one p hs i q (below_parts p h hs b).1 at

-- ---- a list of values, one for each place

module _ {X : Type 0} (f g : Place → X) (v : X) (p : Place) (same : (h : Place) → g h ≡ cond (is_eq (node_place_cmp h p)) v (f h)) where
  -- places past the one whose value changes
  unchanged : (hs : List Place) → IsBelow p hs → map f hs ≡ map g hs
  unchanged [] b = refl
  unchanged (h ∷ hs) b =
      let parts = below_parts p h hs b in
      λ i. (sym (same h ∙ ap (λ t. cond t v (f h)) (not_earlier p h parts.0)) i) ∷ unchanged hs parts.1 i

  -- the value of one place changes
  pub set_at : (hs : List Place) (i : ℕ) → AreRisingPlaces hs → slice_get hs i ≡ Some p → set (map f hs) i v ≡ map g hs
  set_at [] i r at = refl
  set_at (h ∷ hs) zero r at =
      let here : h ≡ p = same_Some h p at in
      let parts = rising_parts h hs r in
      let mine : g h ≡ v = same h ∙ ap (λ q. cond (is_eq (node_place_cmp q p)) v (f h)) here ∙ ap (λ t. cond t v (f h)) (ties_itself p) in
      λ j. (sym mine j) ∷ unchanged hs (rw here at parts.0) j
  set_at (h ∷ hs) (suc i) r at =
      let parts = rising_parts h hs r in
      let less : node_place_cmp h p ≡ Less = below_one h hs i p parts.0 at in
      λ j. (sym (same h ∙ ap (λ o. cond (is_eq o) v (f h)) less) j) ∷ set_at hs i parts.1 at j
