-- Rows shown from the last to the first, up to a limit. Serves the pages that begin at the end of a range.
use Rattle.std.proofs.Common.{ℕ, zero, suc, true, false, ◌≡◌, ◌∙◌, ◌-◌, ◌+◌, ◌<◌, ◌≤◌, ◌++◌, ◌∷◌, List, [], Option, Some, ap, arith, fold, length, refl, reverse, sym, take}
use Rattle.std.proofs.lemmas.List.{length-append, length-reverse, reverse-append}
use Rattle.std.specs.Prelude.{option_map, slice_get}
use Rattle.bt_keycode.specs.Keys.{Key, is_before_lower, is_before_upper}
use Rattle.bt_message.specs.declared.message.Message.{Message}
use Rattle.bt_form.specs.Fits.{IsInOrder}
use Rattle.bt_form.specs.Flushes.{holds}
use Rattle.bt_form.specs.Messages.{between}
use Rattle.bt_form.specs.Trees.{Nodes, Tree, children, height, height_below, inner, leaf, node, none}
use Rattle.bt_form.specs.Walks.{children_of}
use Rattle.bt_form.proofs.offered.flushes.RowsKept.{holds-lie}
use Rattle.bt_form.proofs.offered.rows.Between.{in_order, split-between}
use Rattle.bt_form.proofs.offered.rows.RowsAfter.{rows-sorted}

-- the rows that may still be shown after both parts of a list
pub room_left : {R : Type 0} (n : ℕ) (all xs ys : List R) → all ≡ xs ++ ys → n - length ys - length xs ≡ n - length all
room_left n all xs ys is =
    let both : length all ≡ length xs + length ys = ap length is ∙ length-append xs ys in
    omega (arith, both)

module _ {S R : Type 0} (visited : S → R → S) where
  -- rows shown in two parts, the second one as far as the first one leaves room for it
  in_two : (s : S) (n : ℕ) (xs ys : List R) → fold visited (fold visited s (take n xs)) (take (n - length xs) ys) ≡ fold visited s (take n (xs ++ ys))
  in_two s zero [] ys = refl
  in_two s (suc n) [] ys =
      let same : suc n - 0 ≡ suc n = omega arith in
      ap (λ k. fold visited s (take k ys)) same
  in_two s zero (x ∷ xs) ys =
      let none : 0 - suc (length xs) ≡ 0 = omega arith in
      ap (λ k. fold visited s (take k ys)) none
  in_two s (suc n) (x ∷ xs) ys =
      let less : suc n - suc (length xs) ≡ n - length xs = omega arith in
      ap (λ k. fold visited (fold visited (visited s x) (take n xs)) (take k ys)) less ∙ in_two (visited s x) n xs ys

  -- the later rows of a list are shown before the earlier ones
  pub later_first : (s : S) (n : ℕ) (all xs ys : List R) → all ≡ xs ++ ys
      → fold visited (fold visited s (take n (reverse ys))) (take (n - length ys) (reverse xs)) ≡ fold visited s (take n (reverse all))
  later_first s n all xs ys is =
      ap (λ k. fold visited (fold visited s (take n (reverse ys))) (take (n - k) (reverse xs))) (sym (length-reverse ys))
      ∙ in_two s n (reverse ys) (reverse xs)
      ∙ ap (λ zs. fold visited s (take n zs)) (sym (reverse-append xs ys) ∙ ap reverse (sym is))

  -- the last row is shown before the others
  pub last_first : (s : S) (n : ℕ) (all xs : List R) (x : R) → 0 < n → all ≡ xs ++ x ∷ []
      → fold visited (visited s x) (take (n - 1) (reverse xs)) ≡ fold visited s (take n (reverse all))
  last_first s zero all xs x some is = absurd (omega (arith, some))
  last_first s (suc zero) all xs x some is = later_first s 1 all xs (x ∷ []) is
  last_first s (suc (suc n)) all xs x some is = later_first s (suc (suc n)) all xs (x ∷ []) is

  -- what is left to be shown after the later rows of a list
  pub earlier_left : (s after : S) (n room : ℕ) (all xs ys : List R) → all ≡ xs ++ ys → after ≡ fold visited s (take n (reverse ys)) → room ≡ n - length ys
      → (fold visited after (take room (reverse xs)) ≡ fold visited s (take n (reverse all))) × (room - length xs ≡ n - length all)
  earlier_left s after n room all xs ys is shown left = (
    ap (λ z. fold visited z (take room (reverse xs))) shown ∙ ap (λ k. fold visited (fold visited s (take n (reverse ys))) (take k (reverse xs))) left
        ∙ later_first s n all xs ys is,
    ap (λ k. k - length xs) left ∙ room_left n all xs ys is,
  )

-- the rows of a tree between two bounds are those before a key between these and those from it on
pub cut_at : {V D : Type 0} (effect : Option V → Message V D → Option V) (t : Tree V (Message V D)) → IsInOrder t → (low high : Option Key) (p : Key)
    → is_before_lower low p ≡ false → is_before_upper high p ≡ true
    → between low high (holds effect t) ≡ between low (Some p) (holds effect t) ++ between (Some p) high (holds effect t)
cut_at effect t order low high p from below =
    split-between low high p from below (holds effect t) (in_order (holds effect t) (rows-sorted order.1 order.2 _ (holds-lie effect order.0 order.1 order.2 t order.3)))

-- ---- children

child_lower : {V M : Type 0} (ns : Nodes V M) (i : ℕ) (child : Tree V M) → option_map (λ p. p.1) (slice_get (children ns) i) ≡ Some child → height child ≤ height_below ns
child_lower none i child is = cc
child_lower (node k t ns) zero child is =
    let same : t ≡ child = cc in
    omega (arith, ap height same)
child_lower (node k t ns) (suc i) child is = omega (arith, child_lower ns i child is)

-- a child is lower than its parent
pub child_below : {V M : Type 0} (t child : Tree V M) (i : ℕ) → option_map (λ p. p.1) (slice_get (children_of t) i) ≡ Some child → height child < height t
child_below (leaf rows) child i is = cc
child_below (inner ns buffer) child i is = omega (arith, child_lower ns i child is)

-- one key at one place
pub same_key_at : {V M : Type 0} (o : Option (Key × Tree V M)) (p q : Key) → option_map (λ y. y.0) o ≡ Some p → option_map (λ y. y.0) o ≡ Some q → p ≡ q
same_key_at o p q is also = cc
