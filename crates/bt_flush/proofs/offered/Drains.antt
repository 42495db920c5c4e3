-- No message is pending after a drain of a node, nor in a tree of rows.
use Rattle.std.proofs.Common.{◌≡◌, ℕ, zero, suc, ◌≤◌, List, [], ◌∷◌, ◌++◌, map, length, refl, sym, ap, subst, ◌∙◌, arith, le_refl}
use Rattle.std.specs.List.{flat_map}
use Rattle.bt_keycode.specs.Keys.{Key}
use Rattle.bt_form.specs.Messages.{Rows, Meaning, Messages, rows_after}
use Rattle.bt_form.specs.Deals.{deal}
use Rattle.bt_form.specs.declared.mode.Mode.TheVariants.{Drain}
use Rattle.bt_form.specs.Trees.{Shape, Tree, leaf, inner, Siblings, nodes, height, height_below}
use Rattle.bt_form.specs.Flushes.{Child, Flush, pivot_first, none_pending, flushed, flush_at, gathered, grouped, leaves, crown_within, crown}
use Rattle.bt_flush.specs.Drains.{drain, IsDry, AreDry}
use Rattle.bt_form.proofs.offered.deals.Parts.{joined, joined-deal}
use Rattle.bt_form.proofs.offered.flushes.Children.{all_pending}
use Rattle.bt_form.proofs.offered.flushes.Groups.{as_leaf, stripped}
use Rattle.bt_flush.proofs.offered.Recursion.{AreWithin, shared-within}

module _ {V M : Type 0} where
  all_pending-none_pending : (xs : Siblings V M) (cs : List (Child V M)) → all_pending (none_pending xs ++ cs) ≡ all_pending cs
  all_pending-none_pending [] cs = refl
  all_pending-none_pending (x ∷ xs) cs = all_pending-none_pending xs cs

  -- if each child is flushed, nothing is pending for the nodes that replace them
  pub all_pending-flushed : (f : Flush V M) (cs : List (Child V M)) → all_pending (flat_map (flushed f) cs) ≡ []
  all_pending-flushed f [] = refl
  all_pending-flushed f (c ∷ cs) = all_pending-none_pending (pivot_first c.pivot (f c.tree c.pending)) (flat_map (flushed f) cs) ∙ all_pending-flushed f cs

dry-pivot_first : {V M : Type 0} (k : Key) (xs : Siblings V M) → AreDry (nodes xs) → AreDry (nodes (pivot_first k xs))
dry-pivot_first k [] d = d
dry-pivot_first k (x ∷ xs) d = d

pub dry-leaves : {V : Type 0} (M : Type 0) (s : Shape) (rs : Rows V) → AreDry (nodes (leaves {M = M} s rs))
dry-leaves {V} M s rs = dry-pivot_first [] (map (as_leaf M) (deal s.leaf rs)) (each (deal s.leaf rs))
  where
    each : (gs : List (Rows V)) → AreDry (nodes (map (as_leaf M) gs))
    each [] = tt
    each (g ∷ gs) = (tt, each gs)

module _ {V M : Type 0} where
  -- children without pending messages, in the buffer of their parent or below
  abbrev ChildrenDry : List (Child V M) → Type 0
  ChildrenDry [] = Unit {0}
  ChildrenDry (c ∷ cs) = (c.pending ≡ []) × IsDry c.tree × ChildrenDry cs

  dry-first : (cs ds : List (Child V M)) → ChildrenDry (cs ++ ds) → ChildrenDry cs
  dry-first [] ds d = tt
  dry-first (c ∷ cs) ds d = (d.0, d.1, dry-first cs ds d.2)

  dry-rest : (cs ds : List (Child V M)) → ChildrenDry (cs ++ ds) → ChildrenDry ds
  dry-rest [] ds d = d
  dry-rest (c ∷ cs) ds d = dry-rest cs ds d.2

  dry-both : (cs ds : List (Child V M)) → ChildrenDry cs → ChildrenDry ds → ChildrenDry (cs ++ ds)
  dry-both [] ds d e = e
  dry-both (c ∷ cs) ds d e = (d.0, d.1, dry-both cs ds d.2 e)

  dry-all_pending : (cs : List (Child V M)) → ChildrenDry cs → all_pending cs ≡ []
  dry-all_pending [] d = refl
  dry-all_pending (c ∷ cs) d = ap (λ w. w ++ all_pending cs) d.0 ∙ dry-all_pending cs d.2

  dry-stripped : (cs : List (Child V M)) → ChildrenDry cs → AreDry (nodes (stripped cs))
  dry-stripped [] d = tt
  dry-stripped (c ∷ cs) d = (d.1, dry-stripped cs d.2)

  dry-groups : (gs : List (List (Child V M))) → ChildrenDry (joined gs) → AreDry (nodes (map gathered gs))
  dry-groups [] d = tt
  dry-groups (g ∷ gs) d =
      let first = dry-first g (joined gs) d in
      ((dry-all_pending g first, dry-pivot_first [] (stripped g) (dry-stripped g first)), dry-groups gs (dry-rest g (joined gs) d))

  dry-grouped : (s : Shape) (cs : List (Child V M)) → ChildrenDry cs → AreDry (nodes (grouped s cs))
  dry-grouped s cs d = dry-pivot_first [] (map gathered (deal s.fanout cs)) (dry-groups (deal s.fanout cs) (subst ChildrenDry (sym (joined-deal s.fanout cs)) d))

  dry-none_pending : (xs : Siblings V M) → AreDry (nodes xs) → ChildrenDry (none_pending xs)
  dry-none_pending [] d = tt
  dry-none_pending (x ∷ xs) d = (refl, d.0, dry-none_pending xs d.1)

  dry-flushed : (most : ℕ) (f : Flush V M) → ((t : Tree V M) (p : Messages M) → height t ≤ most → AreDry (nodes (f t p))) → (cs : List (Child V M))
      → AreWithin most cs → ChildrenDry (flat_map (flushed f) cs)
  dry-flushed most f dry [] l = tt
  dry-flushed most f dry (c ∷ cs) l =
      dry-both (flushed f c) (flat_map (flushed f) cs)
      (dry-none_pending (pivot_first c.pivot (f c.tree c.pending)) (dry-pivot_first c.pivot (f c.tree c.pending) (dry c.tree c.pending l.0)))
      (dry-flushed most f dry cs l.1)

  crown_within-dry : (bound : ℕ) (s : Shape) (xs : Siblings V M) → AreDry (nodes xs) → IsDry (crown_within bound s xs)
  crown_within-dry bound s [] d = tt
  crown_within-dry bound s (x ∷ []) d = d.0
  crown_within-dry zero s (x ∷ y ∷ xs) d = d.0
  crown_within-dry (suc bound) s (x ∷ y ∷ xs) d = crown_within-dry bound s (grouped s (none_pending (x ∷ y ∷ xs))) (dry-grouped s (none_pending (x ∷ y ∷ xs)) (dry-none_pending (x ∷ y ∷ xs) d))

  -- one node above siblings in which nothing is pending
  pub crown-dry : (s : Shape) (xs : Siblings V M) → AreDry (nodes xs) → IsDry (crown s xs)
  crown-dry s xs d = crown_within-dry (length xs) s xs d

module _ {V M : Type 0} (meaning : Meaning V M) (s : Shape) where
  flush_at-dry : (h : ℕ) (t : Tree V M) (p : Messages M) → height t ≤ h → AreDry (nodes (flush_at meaning Drain h s t p))
  flush_at-dry h (leaf rs) p l = dry-leaves M s (rows_after meaning.effect p rs)
  flush_at-dry zero (inner ns b) p l = absurd (omega (arith, l))
  flush_at-dry (suc h) (inner ns b) p l =
      dry-grouped s _ (dry-flushed (height_below ns) (flush_at meaning Drain h s) (λ t p k. flush_at-dry h t p (omega (arith, k, l))) _
      (shared-within (height_below ns) ns _ (le_refl (height_below ns))))

  pub drain-dry : (t : Tree V M) (p : Messages M) → AreDry (nodes (drain meaning s t p))
  drain-dry t p = flush_at-dry (height t) t p (le_refl (height t))

  pub drain_dries : (t : Tree V M) (p : Messages M) (xs : Siblings V M) → xs ≡ drain meaning s t p → AreDry (nodes xs)
  drain_dries t p xs is = subst (λ ys. AreDry (nodes ys)) (sym is) (drain-dry t p)

-- the node above siblings in which nothing is pending has nothing pending
pub crown_dries : {V M : Type 0} (s : Shape) (xs : Siblings V M) (tree : Shape × Tree V M) → tree ≡ (s, crown s xs) → AreDry (nodes xs) → IsDry tree.1
crown_dries {V} {M} s xs tree is dry = subst (λ (x : Shape × Tree V M). IsDry x.1) (sym is) (crown-dry s xs dry)
