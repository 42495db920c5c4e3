-- Siblings are their nodes with their pivots.
use Rattle.std.proofs.Common.{◌≡◌, ◌≤◌, ◌<◌, ◌+◌, ◌-◌, ℕ, zero, suc, Some, option_map, slice_get, get_or, List, [], ◌∷◌, ◌++◌, length, map, drop, length-append, refl, sym, ap, ◌∙◌, arith}
use Rattle.std.proofs.lemmas.List.{length-map}
use Rattle.std.specs.List.{zip}
use Rattle.bt_form.specs.Fits.{IsLed}
use Rattle.bt_keycode.specs.Keys.{Key}
use Rattle.bt_form.specs.inside.NodeKinds.{tree_of}
use Rattle.bt_form.specs.Messages.{Messages}
use Rattle.bt_form.specs.Trees.{Siblings, Tree, with_pivots}
use Rattle.bt_form.specs.Walks.{children_of}
use Rattle.bt_form.specs.declared.node.NodeKind.{NodeKind}
use Rattle.bt_form.specs.declared.node.NodeKind.TheVariants.{Inner}
use Rattle.bt_message.specs.declared.message.Message.{Message}
use Rattle.bt_form.proofs.offered.flushes.Groups.{children-nodes}

module _ {X : Type 0} where
  pub zip-items : (ks : List Key) (xs : List X) → length xs ≤ length ks → map (λ x. x.1) (zip ks xs) ≡ xs
  zip-items [] [] few = refl
  zip-items [] (x ∷ xs) few = absurd (omega (arith, few))
  zip-items (k ∷ ks) [] few = refl
  zip-items (k ∷ ks) (x ∷ xs) few = ap (λ z. x ∷ z) (zip-items ks xs (omega (arith, few)))

  pub zip-keys : (ks : List Key) (xs : List X) → length xs ≡ length ks → map (λ x. x.0) (zip ks xs) ≡ ks
  zip-keys [] xs same = refl
  zip-keys (k ∷ ks) [] same = absurd (omega (arith, same))
  zip-keys (k ∷ ks) (x ∷ xs) same = ap (λ z. k ∷ z) (zip-keys ks xs (omega (arith, same)))

  pub zip-length : (ks : List Key) (xs : List X) → length xs ≤ length ks → length (zip ks xs) ≡ length xs
  zip-length [] [] few = refl
  zip-length [] (x ∷ xs) few = absurd (omega (arith, few))
  zip-length (k ∷ ks) [] few = refl
  zip-length (k ∷ ks) (x ∷ xs) few = omega (arith, zip-length ks xs (omega (arith, few)))

  zip-more : (ks : List Key) (xs : List X) (k : Key) (x : X) → length xs ≡ length ks → zip (ks ++ k ∷ []) (xs ++ x ∷ []) ≡ zip ks xs ++ (k, x) ∷ []
  zip-more [] [] k x same = refl
  zip-more [] (y ∷ ys) k x same = absurd (omega (arith, same))
  zip-more (j ∷ js) [] k x same = absurd (omega (arith, same))
  zip-more (j ∷ js) (y ∷ ys) k x same = ap (λ z. (j, y) ∷ z) (zip-more js ys k x (omega (arith, same)))

  module _ (ks : List Key) (xs : List X) (fewer : length xs ≡ length ks + 1) where
    pub with_pivots-items : map (λ x. x.1) (with_pivots ks xs) ≡ xs
    with_pivots-items = zip-items ([] ∷ ks) xs (omega (arith, fewer))

    pub with_pivots-length : length (with_pivots ks xs) ≡ length xs
    with_pivots-length = zip-length ([] ∷ ks) xs (omega (arith, fewer))

    pub with_pivots-more : (k : Key) (x : X) → with_pivots (ks ++ k ∷ []) (xs ++ x ∷ []) ≡ with_pivots ks xs ++ (k, x) ∷ []
    with_pivots-more k x = zip-more ([] ∷ ks) xs k x (omega (arith, fewer))

  pub with_pivots-pivots : (ks : List Key) (xs : List X) → length xs ≡ length ks + 1 → map (λ x. x.0) (drop 1 (with_pivots ks xs)) ≡ ks
  with_pivots-pivots ks [] fewer = absurd (omega (arith, fewer))
  with_pivots-pivots ks (x ∷ xs) fewer = zip-keys ks xs (omega (arith, fewer))

  pub with_pivots-led : (ks : List Key) (xs : List X) → length xs ≡ length ks + 1 → IsLed (with_pivots ks xs)
  with_pivots-led ks [] fewer = absurd (omega (arith, fewer))
  with_pivots-led ks (x ∷ xs) fewer = refl

  -- the last of one is the first
  pub with_pivots-only : (ks : List Key) (xs rest : List X) (x : X) → xs ≡ rest ++ x ∷ [] → length xs ≡ 1 → with_pivots ks xs ≡ ([], x) ∷ []
  with_pivots-only [] xs [] x is one = ap (with_pivots []) is
  with_pivots-only (k ∷ ks) xs [] x is one = ap (with_pivots (k ∷ ks)) is
  with_pivots-only ks xs (r ∷ rest) x is one = absurd (omega (arith, one, ap length is, length-append rest (x ∷ [])))

  pub one-more : (ks js : List Key) (xs ys : List X) (k : Key) (x : X) → length xs ≡ length ks + 1 → js ≡ ks ++ k ∷ [] → ys ≡ xs ++ x ∷ [] → with_pivots js ys ≡ with_pivots ks xs ++ (k, x) ∷ []
  one-more ks js xs ys k x fewer e f = ap (λ ls. with_pivots ls ys) e ∙ ap (with_pivots (ks ++ k ∷ [])) f ∙ with_pivots-more ks xs fewer k x

-- the children that an inner node shows
pub children_seen : {V D : Type 0} (t n : Tree V (Message V D)) (k : NodeKind V D) (xs : Siblings V (Message V D)) (bins : List (Messages (Message V D))) →
    n ≡ t → n ≡ tree_of k → k ≡ Inner xs bins → children_of t ≡ xs
children_seen t n k xs bins view is kind = ap children_of (sym view ∙ is ∙ ap tree_of kind) ∙ children-nodes xs

-- an item read at a place
pub read_at : {X Y : Type 0} (f : X → Y) (xs : List X) (ys : List Y) (i : ℕ) (y : Y) → ys ≡ map f xs → i < length ys → y ≡ get_or ys i y → option_map f (slice_get xs i) ≡ Some y
read_at f [] ys i y e within is = absurd (omega (arith, within, ap length e))
read_at f (x ∷ xs) ys zero y e within is = ap Some (sym (is ∙ ap (λ zs. get_or zs 0 y) e))
read_at f (x ∷ xs) ys (suc i) y e within is =
    read_at f xs (map f xs) i y refl (omega (arith, within, ap length e)) (is ∙ ap (λ zs. get_or zs (suc i) y) e)

-- a pivot read at a place
pub pivot_at : {X : Type 0} (xs : List (Key × X)) (ks : List Key) (i : ℕ) (k : Key) → ks ≡ map (λ x. x.0) (drop 1 xs) → 0 < i → i < length xs
    → k ≡ get_or ks (i - 1) k → option_map (λ x. x.0) (slice_get xs i) ≡ Some k
pivot_at xs ks zero k e some within is = absurd (omega (arith, some))
pivot_at [] ks (suc i) k e some within is = absurd (omega (arith, within))
pivot_at (x ∷ xs) ks (suc i) k e some within is =
    let before : suc i - 1 ≡ i = omega arith in
    let count : length (map (λ y. y.0) xs) ≡ length xs = length-map xs (λ y. y.0) in
    read_at (λ y. y.0) xs ks i k e (omega (arith, within, ap length e, count)) (is ∙ ap (λ j. get_or ks j k) before)

pub pivots_length : {X : Type 0} (xs : List (Key × X)) (ks : List Key) → ks ≡ map (λ x. x.0) (drop 1 xs) → 1 ≤ length xs → length ks + 1 ≡ length xs
pivots_length [] ks e some = absurd (omega (arith, some))
pivots_length (x ∷ xs) ks e some = omega (arith, ap length e, length-map xs (λ y. y.0))

-- a place among the pivots, or after them, is that of a node
pub pivot_within : {X : Type 0} (xs : List (Key × X)) (ts : List X) (ks : List Key) (i : ℕ) → ts ≡ map (λ x. x.1) xs → ks ≡ map (λ x. x.0) (drop 1 xs) → 1 ≤ length xs → i ≤ length ks → i < length ts
pivot_within xs ts ks i items pivots some few = omega (arith, few, pivots_length xs ks pivots some, ap length items, length-map xs (λ x. x.1))
