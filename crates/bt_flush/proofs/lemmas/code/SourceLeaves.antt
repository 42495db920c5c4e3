-- One pass that makes the leaves of rows that come one at a time.
use Rattle.std.proofs.Common.{◌≡◌, ◌∙◌, ◌≤◌, ◌<◌, ◌+◌, ◌-◌, ◌*◌, ◌/◌, ◌%◌, ℕ, zero, suc, max, min, List, [], ◌∷◌, ◌++◌, true}
use Rattle.std.proofs.Common.{ap, append-nil, append_assoc, arith, drop, length, length-drop, replicate, subst, sym, take}
use Rattle.std.proofs.Math.Seq.{take-length}
use Rattle.std.proofs.lemmas.List.{drop_all, length-map}
use Rattle.std.specs.Int.{div_ceil}
use Rattle.std.specs.FinMap.{is_sorted}
use Rattle.bt_keycode.specs.Keys.{Key, key_cmp}
use Rattle.bt_form.specs.Deals.{deal, even, parted, sizes}
use Rattle.bt_form.specs.Flushes.{first_key}
use Rattle.bt_flush.specs.inside.KeyedLeaves.{all_leaves, keyed_leaves, leaf_count}
use Rattle.bt_form.specs.Messages.{Rows}
use Rattle.bt_form.specs.Plans.{total}
use Rattle.bt_form.specs.Trees.{Shape, Siblings, leaf}
use Rattle.bt_form.proofs.offered.code.RowPass.{AllSorted, sorted_parted}
use Rattle.bt_flush.proofs.lemmas.deals.Division.{take-add}
use Rattle.bt_form.proofs.offered.deals.Parts.{total-append, total-sizes}
use Rattle.bt_form.proofs.offered.deals.PartSizes.{length-even, lengths-deal}
use Rattle.bt_form.proofs.offered.flushes.Groups.{as_leaf}

-- ---- how many leaves there are

pub leaf_count-is : (s : Shape) (n : ℕ) → leaf_count s n ≡ max 1 (div_ceil n s.leaf)
leaf_count-is s n = length-even n (max 1 (div_ceil n s.leaf)) (omega arith)

-- this many even parts have the sizes of leaves
pub even_leaves : (s : Shape) (n k : ℕ) → k ≡ leaf_count s n → even n k ≡ sizes n s.leaf
even_leaves s n k e = ap (even n) (e ∙ leaf_count-is s n)

-- ---- the leaves

-- the size at a place is the first of those that are left
pub next_size : (s : Shape) (n k place size : ℕ) → k ≡ leaf_count s n → drop place (even n k) ≡ size ∷ drop (place + 1) (even n k)
    → drop place (sizes n s.leaf) ≡ size ∷ drop (place + 1) (sizes n s.leaf)
next_size s n k place size many next =
    let sizes-are = even_leaves s n k many in
    ap (drop place) (sym sizes-are) ∙ next ∙ ap (λ ns. size ∷ drop (place + 1) ns) sizes-are

-- no size is left
pub none_left : (s : Shape) (n k place : ℕ) → k ≡ leaf_count s n → k ≤ place → drop place (sizes n s.leaf) ≡ []
none_left s n k place many end = drop_all place (sizes n s.leaf) (omega (arith, many, end))

module _ {V : Type 0} where
  -- Sizes of leaves that are still to be made, and the rows for them.
  pub record AreLeft (ns : List ℕ) (rs : Rows V) : Type 0 where
    pub fit : total ns ≤ length rs
    pub sorted : AllSorted (parted ns rs)

  -- all sizes at first
  pub all_left : (ns : List ℕ) (rs : Rows V) → length rs ≡ total ns → is_sorted key_cmp rs ≡ true → AreLeft ns rs
  all_left ns rs count sorted = record { fit = omega (arith, count); sorted = sorted_parted ns rs sorted }

  module _ (n : ℕ) (ns all : List ℕ) (rs : Rows V) (next : all ≡ n ∷ ns) (left : AreLeft all rs) where
    pub next_fits : n ≤ length rs
    next_fits = omega (arith, left.fit, ap total next)

    pub next_sorted : is_sorted key_cmp (take n rs) ≡ true
    next_sorted = (subst (λ ms. AllSorted (parted ms rs)) next left.sorted).0

    pub rest_left : (rest : Rows V) → rest ≡ drop n rs → AreLeft ns rest
    rest_left rest is = record {
      fit = omega (arith, left.fit, ap total next, ap length is, length-drop n rs);
      sorted = subst (λ xs. AllSorted (parted ns xs)) (sym is) (subst (λ ms. AllSorted (parted ms rs)) next left.sorted).1;
    }

module _ {V M : Type 0} where
  module _ (n : ℕ) (ns all : List ℕ) (rs part rest : Rows V) (next : all ≡ n ∷ ns) (moved : part ≡ take n rs) (is : rest ≡ drop n rs) where
    -- one more leaf
    pub leaf_made : (made now : Siblings V M) (k : Key) → k ≡ first_key (λ r. r.0) part → now ≡ made ++ (k, leaf part) ∷ [] →
        now ++ keyed_leaves ns rest ≡ made ++ keyed_leaves all rs
    leaf_made made now k lowest pushed =
        ap (λ xs. xs ++ keyed_leaves ns rest) pushed ∙ append_assoc made ((k, leaf part) ∷ []) (keyed_leaves ns rest)
        ∙ ap (λ j. made ++ (j, leaf part) ∷ keyed_leaves ns rest) lowest ∙ ap (λ xs. made ++ as_leaf M xs ∷ keyed_leaves ns rest) moved
        ∙ ap (λ xs. made ++ as_leaf M (take n rs) ∷ keyed_leaves ns xs) is ∙ sym (ap (λ ms. made ++ keyed_leaves ms rs) next)

  -- all leaves are made
  pub all_made : (s : Shape) (n : ℕ) (made : Siblings V M) (ns : List ℕ) (rs rest : Rows V) → n ≡ length rs → ns ≡ []
      → made ++ keyed_leaves ns rest ≡ keyed_leaves (sizes n s.leaf) rs → made ≡ all_leaves s rs
  all_made s n made ns rs rest count none kept =
      sym (append-nil made) ∙ sym (ap (λ ms. made ++ keyed_leaves ms rest) none) ∙ kept ∙ ap (λ k. keyed_leaves (sizes k s.leaf) rs) count

-- there is a leaf, also if there are no rows
pub some_leaves : {V : Type 0} (M : Type 0) (s : Shape) (rs : Rows V) → 1 ≤ length (all_leaves {M = M} s rs)
some_leaves M s rs =
    omega (arith, length-map (deal s.leaf rs) (as_leaf M), length-map (deal s.leaf rs) length, ap length (lengths-deal s.leaf rs), leaf_count-is s (length rs))
