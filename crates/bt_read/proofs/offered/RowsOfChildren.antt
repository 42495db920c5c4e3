-- The rows that a node holds, from those of its children.
use Rattle.std.proofs.Common.{map, ◌≡◌, ◌<◌, ◌≤◌, ℕ, zero, suc, List, [], ◌∷◌, get_or, length, Option, refl, sym, ap, subst, ◌∙◌, arith}
use Rattle.std.proofs.lemmas.List.{length-map}
use Rattle.std.specs.declared.option.Option.TheVariants.{None, Some}
use Rattle.bt_form.specs.Fits.{HasShape, IsInOrder, Lies, SiblingsLie}
use Rattle.bt_keycode.specs.Keys.{Key, SideBySide}
use Rattle.bt_form.specs.Messages.{Messages}
use Rattle.bt_form.specs.Trees.{Nodes, Shape, Siblings, Tree, children, height, height_below, inner, nodes}
use Rattle.bt_form.proofs.offered.flushes.Groups.{children-nodes}

-- items side by side reach from some key to some key
side_at : {X : Type 0} (key : X → Key) (Reaches : Option Key → Option Key → X → Type 0) (low high : Option Key) (xs : List X) (i : ℕ) (x : X) →
    i < length xs → x ≡ get_or xs i x → SideBySide key Reaches low high xs → (l : Option Key) × (h : Option Key) × Reaches l h x
side_at key Reaches low high [] i x within is side = absurd (omega arith)
side_at key Reaches low high (y ∷ []) zero x within is side = (low, high, subst (Reaches low high) (sym is) side)
side_at key Reaches low high (y ∷ []) (suc i) x within is side = absurd (omega arith)
side_at key Reaches low high (y ∷ z ∷ zs) zero x within is side = (low, Some (key z), subst (Reaches low (Some (key z))) (sym is) side.2)
side_at key Reaches low high (y ∷ z ∷ zs) (suc i) x within is side = side_at key Reaches (Some (key z)) high (z ∷ zs) i x (omega (arith, within)) is side.3

module _ {V M : Type 0} where
  -- the children of an inner node in order
  children_lie : (levels : ℕ) (low high : Option Key) (ns : Nodes V M) (buffer : Messages M) → Lies levels low high (inner ns buffer) → (lower : ℕ) × SiblingsLie lower low high (children ns)
  children_lie zero low high ns buffer lies = absurd lies
  children_lie (suc levels) low high ns buffer lies = (levels, lies.2)

  -- a tree that fits is in order
  pub shape_in_order : (weigh : Key × M → ℕ) (shape : Shape) (t : Tree V M) → HasShape weigh shape t → IsInOrder t
  shape_in_order weigh shape t has = (has.levels, None, None, has.fits.lies)

  -- a tree of siblings
  tree_at : (xs : Siblings V M) (i : ℕ) (t : Tree V M) → i < length xs → t ≡ get_or (map (λ x. x.1) xs) i t → (x : Key × Tree V M) × (x.1 ≡ t) × (x ≡ get_or xs i x)
  tree_at [] i t within is = absurd (omega (arith, within))
  tree_at (x ∷ xs) zero t within is = (x, sym is, refl)
  tree_at (x ∷ xs) (suc i) t within is = tree_at xs i t (omega (arith, within)) is

  no_higher : (xs : Siblings V M) (i : ℕ) (t : Tree V M) → i < length xs → t ≡ get_or (map (λ x. x.1) xs) i t → height t ≤ height_below (nodes xs)
  no_higher [] i t within is = absurd (omega (arith, within))
  no_higher (x ∷ xs) zero t within is = omega (arith, ap height is)
  no_higher (x ∷ xs) (suc i) t within is = omega (arith, no_higher xs i t (omega (arith, within)) is)

  module _ (t : Tree V M) (xs : Siblings V M) (buffer : Messages M) (here : t ≡ inner (nodes xs) buffer) where
    -- the children of a node in order lie side by side
    pub siblings_lie : IsInOrder t → (levels : ℕ) × (low : Option Key) × (high : Option Key) × SiblingsLie levels low high xs
    siblings_lie order =
        let lies = subst (Lies order.0 order.1 order.2) here order.3 in
        let below = children_lie order.0 order.1 order.2 (nodes xs) buffer lies in
        (below.0, order.1, order.2, subst (SiblingsLie below.0 order.1 order.2) (children-nodes xs) below.1)

    module _ (ts : List (Tree V M)) (items : ts ≡ map (λ x. x.1) xs) (i : ℕ) where
      -- a child is lower than its node
      pub child_lower : (child : Tree V M) → i < length ts → child ≡ get_or ts i child → height child < height t
      child_lower child within is =
          omega (arith, no_higher xs i child (omega (arith, within, ap length items, length-map xs (λ x. x.1))) (is ∙ ap (λ ys. get_or ys i child) items), ap height here)

      -- a child of a node in order is in order
      pub child_in_order : (child : Tree V M) → i < length ts → child ≡ get_or ts i child → IsInOrder t → IsInOrder child
      child_in_order child within is order =
          let side = siblings_lie order in
          let inside : i < length xs = omega (arith, within, ap length items, length-map xs (λ x. x.1)) in
          let one = tree_at xs i child inside (is ∙ ap (λ ys. get_or ys i child) items) in
          let at = side_at (λ x. x.0) (λ l h x. Lies side.0 l h x.1) side.1 side.2 xs i one.0 inside one.2 side.3 in
          (side.0, at.0, at.1, subst (Lies side.0 at.0 at.1) one.1 at.2)
