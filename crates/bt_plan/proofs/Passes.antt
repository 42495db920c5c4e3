-- Children after one pass: what is left pending for them, and how their pivots and all their messages divide them again.
use Rattle.std.proofs.Common.{◌≡◌, ℕ, Bool, true, false, List, [], ◌∷◌, ◌++◌, map, refl, sym, ap, subst, ◌∙◌}
use Rattle.std.specs.declared.option.Option.{Option}
use Rattle.bt_keycode.specs.Keys.{Key}
use Rattle.bt_messages.specs.Bins.{LieBetween}
use Rattle.bt_form.specs.Children.{with_pending}
use Rattle.bt_form.specs.Flushes.{Child, Flush, flushed, none_pending, pivot_first, shared}
use Rattle.bt_form.specs.Trees.{Siblings, pivots_of}
use Rattle.bt_form.specs.Passes.{after_pass}
use Rattle.bt_node.proofs.offered.FlushSteps.{ChildrenLie, all_pending, divided-lie, joined-pending, stripped, with_pending-shared}
use Rattle.bt_plan.specs.Cuts.{left_pending}

module _ {V M : Type 0} where
  -- the children after one pass that flushes the marked ones
  abbrev pub pass : Flush V M → List (Child V M × Bool) → List (Child V M)
  pass f = after_pass (flushed f)

  pub all_pending-none : (xs : Siblings V M) (cs : List (Child V M)) → all_pending (none_pending xs ++ cs) ≡ all_pending cs
  all_pending-none [] cs = refl
  all_pending-none (x ∷ xs) cs = all_pending-none xs cs

  -- what is pending after the pass is what stays in the buffer
  pub pending-pass : (f : Flush V M) (ss : List (Child V M × Bool)) → all_pending (pass f ss) ≡ left_pending ss
  pending-pass f [] = refl
  pending-pass f ((c, true) ∷ ss) = all_pending-none (pivot_first c.pivot (f c.tree c.pending)) (pass f ss) ∙ pending-pass f ss
  pending-pass f ((c, false) ∷ ss) = ap (λ z. c.pending ++ z) (pending-pass f ss)

  pub stripped-none : (xs : Siblings V M) (cs : List (Child V M)) → stripped (none_pending xs ++ cs) ≡ xs ++ stripped cs
  stripped-none [] cs = refl
  stripped-none (x ∷ xs) cs = ap (λ z. x ∷ z) (stripped-none xs cs)

  with_pending-stripped : (cs : List (Child V M)) → with_pending (stripped cs) (map (λ c. c.pending) cs) ≡ cs
  with_pending-stripped [] = refl
  with_pending-stripped (c ∷ cs) = ap (λ z. c ∷ z) (with_pending-stripped cs)

  pivots-stripped : (cs : List (Child V M)) → map (λ c. c.pivot) cs ≡ map (λ x. x.0) (stripped cs)
  pivots-stripped [] = refl
  pivots-stripped (c ∷ cs) = ap (λ z. c.pivot ∷ z) (pivots-stripped cs)

  -- children in their places can be divided again
  pub lies-divides : (levels : ℕ) (low high : Option Key) (cs : List (Child V M)) → ChildrenLie levels low high cs → shared (stripped cs) (all_pending cs) ≡ cs
  lies-divides levels low high [] p = refl
  lies-divides levels low high (c ∷ cs) p =
      let pending = map (λ (d : Child V M). d.pending) (c ∷ cs) in
      let divided : LieBetween (pivots_of (stripped (c ∷ cs))) pending =
      subst (λ ks. LieBetween ks pending) (pivots-stripped cs) (divided-lie levels low high (c ∷ cs) p)
      in
      ap (shared (stripped (c ∷ cs))) (sym (joined-pending (c ∷ cs)))
      ∙ sym (with_pending-shared (stripped (c ∷ cs)) pending divided)
      ∙ with_pending-stripped (c ∷ cs)
