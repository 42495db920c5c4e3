-- A flush of a node flushes its children by the same rule, with no bound on heights.
use Rattle.std.proofs.Common.{◌≡◌, ℕ, zero, suc, ◌<◌, ◌≤◌, Bool, true, false, cond, List, [], ◌∷◌, ◌++◌, refl, sym, ap, subst, ◌∙◌, arith, le_refl}
use Rattle.bt_keycode.specs.Keys.{Key}
use Rattle.bt_form.specs.Messages.{Meaning, Messages, from, with_messages}
use Rattle.bt_form.specs.declared.mode.Mode.{Mode}
use Rattle.bt_form.specs.Passes.{after_pass}
use Rattle.bt_form.specs.Trees.{Shape, Tree, leaf, inner, Nodes, none, node, children, height, height_below}
use Rattle.bt_form.specs.Fits.{IsLed}
use Rattle.bt_form.specs.Flushes.{Child, Flush, pivot_first, shared, flushed, flushed_in, flush_at, flush_in, gathered, grouped, none_pending}
use Rattle.bt_form.proofs.offered.plans.OnePass.{names}
use Rattle.bt_form.proofs.offered.flushes.Groups.{deal-some, leaves-led, led-map}
use Rattle.bt_form.proofs.offered.flushes.Passes.{slots, flushed-slots, names-slots}

-- none of these children is higher than this
abbrev pub AreWithin : {V M : Type 0} → ℕ → List (Child V M) → Type 0
AreWithin most [] = Unit {0}
AreWithin most (c ∷ cs) = (height c.tree ≤ most) × AreWithin most cs

pub shared-within : {V M : Type 0} (most : ℕ) (ns : Nodes V M) (b : Messages M) → height_below ns ≤ most → AreWithin most (shared (children ns) b)
shared-within most none b l = tt
shared-within most (node k t none) b l = (omega (arith, l), tt)
shared-within most (node k t (node j u ns)) b l = (omega (arith, l), shared-within most (node j u ns) (from j b) (omega (arith, l)))

-- Two flushes that do the same to trees up to a height do the same to children up to this height: one pass flushes no others.
module _ {V M : Type 0} (most : ℕ) (f g : Flush V M) (agree : (t : Tree V M) (p : Messages M) → height t ≤ most → f t p ≡ g t p) where
  block-same : (s : Child V M × Bool) → height s.0.tree ≤ most → cond s.1 (flushed f s.0) (s.0 ∷ []) ≡ cond s.1 (flushed g s.0) (s.0 ∷ [])
  block-same (c, true) l = ap (λ xs. none_pending (pivot_first c.pivot xs)) (agree c.tree c.pending l)
  block-same (c, false) l = refl

  abbrev pass : Flush V M → List (Child V M × Bool) → List (Child V M)
  pass h = after_pass (flushed h)

  pass-same : (ss : List (Child V M × Bool)) → AreWithin most (names ss) → pass f ss ≡ pass g ss
  pass-same [] l = refl
  pass-same (s ∷ ss) l = ap (λ z. z ++ pass f ss) (block-same s l.0) ∙ ap (λ z. cond s.1 (flushed g s.0) (s.0 ∷ []) ++ z) (pass-same ss l.1)

  -- the children after one flush are the children after the other
  children-same : (weigh : Key × M → ℕ) (s : Shape) (mode : Mode) (cs : List (Child V M)) → AreWithin most cs → flushed_in weigh s mode f cs ≡ flushed_in weigh s mode g cs
  children-same weigh s mode cs l =
      flushed-slots weigh s mode f cs
      ∙ pass-same (slots weigh s mode cs) (subst (AreWithin most) (sym (names-slots weigh s mode cs)) l)
      ∙ sym (flushed-slots weigh s mode g cs)

module _ {V M : Type 0} (meaning : Meaning V M) where
  -- two bounds of at least the node's height give the same
  pub flush-same : (mode : Mode) (s : Shape) (h j : ℕ) (t : Tree V M) (p : Messages M) → height t ≤ h → height t ≤ j → flush_at meaning mode h s t p ≡ flush_at meaning mode j s t p
  flush-same mode s h j (leaf rows) p l m = refl
  flush-same mode s zero j (inner ns b) p l m = absurd (omega (arith, l))
  flush-same mode s (suc h) zero (inner ns b) p l m = absurd (omega (arith, m))
  flush-same mode s (suc h) (suc j) (inner ns b) p l m =
      let most = height_below ns in
      ap (grouped s)
      (children-same most (flush_at meaning mode h s) (flush_at meaning mode j s) (λ t p k. flush-same mode s h j t p (omega (arith, k, l)) (omega (arith, k, m))) meaning.weigh s mode _
      (shared-within most ns _ (le_refl most)))

  -- an inner node flushes its children by the same rule as itself
  pub flush_recurs : (mode : Mode) (s : Shape) (ns : Nodes V M) (b p : Messages M) →
      flush_in meaning mode s (inner ns b) p ≡ grouped s (flushed_in meaning.weigh s mode (flush_in meaning mode s) (shared (children ns) (with_messages p b)))
  flush_recurs mode s ns b p =
      let most = height_below ns in
      ap (grouped s)
      (children-same most (flush_at meaning mode most s) (flush_in meaning mode s) (λ t p l. flush-same mode s most (height t) t p l (le_refl (height t))) meaning.weigh s mode _
      (shared-within most ns _ (le_refl most)))

  module _ (s : Shape) (mode : Mode) (leaf_some : 0 < s.leaf) (fanout_some : 0 < s.fanout) where
    flush_at-led : (h : ℕ) (t : Tree V M) (p : Messages M) → IsLed (flush_at meaning mode h s t p)
    flush_at-led h (leaf rows) p = leaves-led M s _ leaf_some
    flush_at-led zero (inner ns b) p = refl
    flush_at-led (suc h) (inner ns b) p = led-map gathered _ (deal-some s.fanout _ fanout_some)

    -- the first sibling has the empty key
    pub flush-led : (t : Tree V M) (p : Messages M) → IsLed (flush_in meaning mode s t p)
    flush-led t p = flush_at-led (height t) t p
