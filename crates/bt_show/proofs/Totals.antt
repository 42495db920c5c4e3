-- What a node holds from what its children hold. Serves the usage of a tree.
use Rattle.std.proofs.Common.{ℕ, zero, suc, ◌+◌, ◌≡◌, ◌≤◌, List, [], ◌∷◌, length, min, refl, ap, take, arith, take_all}
use Rattle.std.specs.Prelude.{option_map, slice_get, Some}
use Rattle.bt_keycode.specs.Keys.{Key}
use Rattle.bt_form.specs.Trees.{Tree, leaf, inner, Nodes, none, node, Siblings, children}
use Rattle.bt_form.specs.Walks.{children_of, messages_of, rows_of}
use Rattle.bt_show.specs.Usage.{leaf_rows, leaf_rows_below, pending, pending_below}
use Rattle.bt_show.proofs.Drawings.{child_at, same_item}

-- the sum of a number of each child
abbrev pub total : {V M : Type 0} → (Tree V M → ℕ) → Siblings V M → ℕ
total number [] = 0
total number (child ∷ others) = number child.1 + total number others

rows_below_listed : {V M : Type 0} (ns : Nodes V M) → leaf_rows_below ns ≡ total leaf_rows (children ns)
rows_below_listed none = refl
rows_below_listed (node pivot tree ns) = ap (λ (n : ℕ). leaf_rows tree + n) (rows_below_listed ns)

pending_below_listed : {V M : Type 0} (ns : Nodes V M) → pending_below ns ≡ total pending (children ns)
pending_below_listed none = refl
pending_below_listed (node pivot tree ns) = ap (λ (n : ℕ). pending tree + n) (pending_below_listed ns)

pub rows_listed : {V M : Type 0} (t : Tree V M) → leaf_rows t ≡ length (rows_of t) + total leaf_rows (children_of t)
rows_listed (leaf rows) = omega arith
rows_listed (inner ns buffer) = let below = rows_below_listed ns in omega (arith, below)

pub pending_listed : {V M : Type 0} (t : Tree V M) → pending t ≡ length (messages_of t) + total pending (children_of t)
pending_listed (leaf rows) = refl
pending_listed (inner ns buffer) = ap (λ (n : ℕ). length buffer + n) (pending_below_listed ns)

module _ {V M : Type 0} (number : Tree V M → ℕ) where
  total_more : (xs : Siblings V M) (i : ℕ) (x : Key × Tree V M) → slice_get xs i ≡ Some x → total number (take (suc i) xs) ≡ total number (take i xs) + number x.1
  total_more [] i x is = cc
  total_more (y ∷ ys) zero x is = omega (arith, ap (λ (z : Key × Tree V M). number z.1) (same_item y x is))
  total_more (y ∷ ys) (suc i) x is = omega (arith, total_more ys i x is)

  -- one more child
  pub total_next : (xs : Siblings V M) (i : ℕ) (child : Tree V M) (own most before after more : ℕ) → option_map (λ p. p.1) (slice_get xs i) ≡ Some child
      → before ≡ min (own + total number (take i xs)) most → more ≡ min (number child) most → after ≡ min (before + more) most
      → after ≡ min (own + total number (take (i + 1) xs)) most
  total_next xs i child own most before after more is was found step =
      let at = child_at (slice_get xs i) child is in
      let same = ap number at.2 in
      let next : i + 1 ≡ suc i = omega arith in
      let grown = total_more xs i at.0 at.1 in
      rw next (omega (arith, same, grown, was, found, step))

  -- all children
  pub total_last : (xs : Siblings V M) (i own all most before : ℕ) → length xs ≤ i → before ≡ min (own + total number (take i xs)) most → all ≡ own + total number xs
      → before ≡ min all most
  total_last xs i own all most before past was is =
      let whole = ap (total number) (take_all i xs past) in
      omega (arith, whole, was, is)
