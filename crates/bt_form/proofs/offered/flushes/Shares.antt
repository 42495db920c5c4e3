-- A buffer shared among children.
use Rattle.std.proofs.Common.{◌≡◌, ℕ, suc, Bool, true, false, cond, not, [], ◌∷◌, ◌++◌, length, refl, sym, ap, ◌∙◌, append-nil}
use Rattle.std.specs.Ordering.{eq_by_cmp}
use Rattle.std.specs.FinMap.Entries.{where_key}
use Rattle.std.specs.declared.option.Option.{Option}
use Rattle.std.specs.declared.option.Option.TheVariants.{Some}
use Rattle.bt_keycode.specs.Keys.{Key, key_cmp, is_before, AllWithin, IsSorted}
use Rattle.bt_form.specs.Messages.{Messages, value_after, before, from}
use Rattle.bt_form.specs.Trees.{Tree, Siblings}
use Rattle.bt_form.specs.Flushes.{shared, holds, all_hold}
use Rattle.bt_form.specs.Fits.{SiblingsLie}
use Rattle.bt_keycode.proofs.offered.Order.{same_key}
use Rattle.bt_form.proofs.offered.keys.SortedLists.{sorted-where}
use Rattle.bt_form.proofs.offered.rows.Values.{value-append}
use Rattle.bt_form.proofs.offered.flushes.Children.{ChildrenLie, all_pending, below}

pub length-shared : {V M : Type 0} (xs : Siblings V M) (b : Messages M) → length (shared xs b) ≡ length xs
length-shared [] b = refl
length-shared (x ∷ []) b = refl
length-shared (x ∷ y ∷ ys) b = ap suc (length-shared (y ∷ ys) (from y.0 b))

module _ {V M : Type 0} (effect : Option V → M → Option V) where
  value-where : (q : Key) (test : Key → Bool) (ms : Messages M) (o : Option V) → value_after effect q (where_key key_cmp test ms) o ≡ cond (test q) (value_after effect q ms o) o
  value-where q test [] o = elim (test q) as (λ b. o ≡ cond b o o) [ true ↦ refl | false ↦ refl ]
  value-where q test (m ∷ ms) o =
      let kept = where_key key_cmp test ms in
      elim (eq_by_cmp key_cmp q m.0) as (λ t. eq_by_cmp key_cmp q m.0 ≡ t
      → value_after effect q (where_key key_cmp test (m ∷ ms)) o ≡ cond (test q) (value_after effect q ms (cond t (effect o m.1) o)) o) [
        | true ↦ λ t.
            ap (λ k. value_after effect q (cond (test k) (m ∷ kept) kept) o) (sym (same_key q m.0 t))
            ∙ elim (test q) as (λ b. test q ≡ b → value_after effect q (cond b (m ∷ kept) kept) o ≡ cond b (value_after effect q ms (effect o m.1)) o) [
              | true ↦ λ b. ap (λ t. value_after effect q kept (cond t (effect o m.1) o)) t ∙ value-where q test ms (effect o m.1)
                  ∙ ap (λ b. cond b (value_after effect q ms (effect o m.1)) (effect o m.1)) b
              | false ↦ λ b. value-where q test ms o ∙ ap (λ b. cond b (value_after effect q ms o) o) b
            ] refl
        | false ↦ λ t.
            elim (test m.0) as (λ b. value_after effect q (cond b (m ∷ kept) kept) o ≡ value_after effect q kept o) [
              | true ↦ ap (λ t. value_after effect q kept (cond t (effect o m.1) o)) t
              | false ↦ refl
            ]
            ∙ value-where q test ms o
      ] refl

  -- the messages before a key, and then those from it on, have the effect of all
  value-divided : (q k : Key) (ms : Messages M) (o : Option V) → value_after effect q (from k ms) (value_after effect q (before k ms) o) ≡ value_after effect q ms o
  value-divided q k ms o =
      ap (value_after effect q (from k ms)) (value-where q (λ x. is_before x k) ms o)
      ∙ value-where q (λ x. not (is_before x k)) ms _
      ∙ elim (is_before q k) as (λ b. cond (not b) (value_after effect q ms (cond b (value_after effect q ms o) o)) (cond b (value_after effect q ms o) o)
      ≡ value_after effect q ms o) [ true ↦ refl | false ↦ refl ]

  pub value-shared : (q : Key) (x : Key × Tree V M) (xs : Siblings V M) (b : Messages M) (o : Option V) → value_after effect q (all_pending (shared (x ∷ xs) b)) o ≡ value_after effect q b o
  value-shared q x [] b o = ap (λ w. value_after effect q w o) (append-nil b)
  value-shared q x (y ∷ ys) b o =
      value-append effect q (before y.0 b) (all_pending (shared (y ∷ ys) (from y.0 b))) o
      ∙ value-shared q y ys (from y.0 b) _
      ∙ value-divided q y.0 b o

  pub below-shared : (xs : Siblings V M) (b : Messages M) → below effect (shared xs b) ≡ all_hold effect xs
  below-shared [] b = refl
  below-shared (x ∷ []) b = refl
  below-shared (x ∷ y ∷ ys) b = ap (λ z. holds effect x.1 ++ z) (below-shared (y ∷ ys) (from y.0 b))

before-within : {M : Type 0} (low : Option Key) (k : Key) (high : Option Key) (ms : Messages M) → AllWithin low high ms → AllWithin low (Some k) (before k ms)
before-within low k high [] h = tt
before-within low k high (m ∷ ms) h = elim (is_before m.0 k) as (λ t. is_before m.0 k ≡ t → AllWithin low (Some k) (cond t (m ∷ before k ms) (before k ms))) [
  | true ↦ λ t. (record { from = h.0.from; below = t }, before-within low k high ms h.1)
  | false ↦ λ t. before-within low k high ms h.1
] refl

from-within : {M : Type 0} (low : Option Key) (k : Key) (high : Option Key) (ms : Messages M) → AllWithin low high ms → AllWithin (Some k) high (from k ms)
from-within low k high [] h = tt
from-within low k high (m ∷ ms) h = elim (is_before m.0 k) as (λ t. is_before m.0 k ≡ t → AllWithin (Some k) high (cond (not t) (m ∷ from k ms) (from k ms))) [
  | true ↦ λ t. from-within low k high ms h.1
  | false ↦ λ t. (record { from = t; below = h.0.below }, from-within low k high ms h.1)
] refl

-- the children lie in their places, each with its share
pub shared-lie : {V M : Type 0} (levels : ℕ) (low high : Option Key) (xs : Siblings V M) (b : Messages M) →
    SiblingsLie levels low high xs → AllWithin low high b → IsSorted b → ChildrenLie levels low high (shared xs b)
shared-lie levels low high [] b p w r = tt
shared-lie levels low high (x ∷ []) b p w r = (p, w, r)
shared-lie levels low high (x ∷ y ∷ []) b p w r = (p.0, p.1, (p.2, before-within low y.0 high b w, sorted-where _ b r), (p.3, from-within low y.0 high b w, sorted-where _ b r))
shared-lie levels low high (x ∷ y ∷ z ∷ zs) b p w r =
    (p.0, p.1, (p.2, before-within low y.0 high b w, sorted-where _ b r), shared-lie levels (Some y.0) high (y ∷ z ∷ zs) (from y.0 b) p.3 (from-within low y.0 high b w) (sorted-where _ b r))
