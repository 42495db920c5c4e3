-- The values among children with their pending messages.
use Rattle.std.proofs.Common.{◌≡◌, ℕ, List, [], ◌∷◌, ◌++◌, refl, sym, ap, ◌∙◌, append-nil, inl, inr}
use Rattle.std.specs.List.{flat_map}
use Rattle.std.specs.FinMap.{find}
use Rattle.std.specs.declared.option.Option.{Option}
use Rattle.std.specs.declared.option.Option.TheVariants.{None, Some}
use Rattle.bt_keycode.specs.Keys.{Key, key_cmp, AllWithin, IsSorted, SideBySide}
use Rattle.bt_form.specs.Messages.{Rows, Messages, value_after}
use Rattle.bt_form.specs.Flushes.{Child, holds}
use Rattle.bt_form.specs.Fits.{Lies}
use Rattle.bt_keycode.proofs.offered.Order.{sides}
use Rattle.bt_form.proofs.offered.rows.Values.{find-append, value-append, or_else, or_else-None, or_else_assoc}
use Rattle.bt_form.proofs.offered.lookups.Outside.{Outside, outside-first, outside-rest, value-outside, tree-outside}

-- a child and its pending messages, within limits
abbrev pub ChildLies : {V M : Type 0} → ℕ → Option Key → Option Key → Child V M → Type 0
ChildLies levels low high c = Lies levels low high c.tree × AllWithin low high c.pending × IsSorted c.pending

abbrev pub ChildrenLie : {V M : Type 0} → ℕ → Option Key → Option Key → List (Child V M) → Type 0
ChildrenLie levels = SideBySide (λ c. c.pivot) (ChildLies levels)

-- all that is pending, as one buffer
abbrev pub all_pending : {V M : Type 0} → List (Child V M) → Messages M
all_pending = flat_map (λ c. c.pending)

module _ {V M : Type 0} (effect : Option V → M → Option V) where
  -- the value at a key of a child with its pending messages
  abbrev pub seen : Key → Child V M → Option V
  seen q c = value_after effect q c.pending (find key_cmp q (holds effect c.tree))

  -- the value at a key of children
  abbrev pub seen_in : Key → List (Child V M) → Option V
  seen_in q [] = None
  seen_in q (c ∷ cs) = or_else (seen q c) (seen_in q cs)

  pub seen-append : (q : Key) (cs ds : List (Child V M)) → seen_in q (cs ++ ds) ≡ or_else (seen_in q cs) (seen_in q ds)
  seen-append q [] ds = refl
  seen-append q (c ∷ cs) ds = ap (or_else (seen q c)) (seen-append q cs ds) ∙ sym (or_else_assoc (seen q c) (seen_in q cs) (seen_in q ds))

  -- the rows of the children together, without their pending messages
  abbrev pub below : List (Child V M) → Rows V
  below = flat_map (λ c. holds effect c.tree)

  all_pending-outside : (levels : ℕ) (q : Key) (low high : Option Key) (cs : List (Child V M)) (o : Option V) → ChildrenLie levels low high cs
      → Outside low high q → value_after effect q (all_pending cs) o ≡ o
  all_pending-outside levels q low high [] o p out = refl
  all_pending-outside levels q low high (c ∷ []) o p out = ap (λ w. value_after effect q w o) (append-nil c.pending) ∙ value-outside effect q low high c.pending o out p.1
  all_pending-outside levels q low high (c ∷ d ∷ cs) o p out =
      value-append effect q c.pending (all_pending (d ∷ cs)) o
      ∙ ap (value_after effect q (all_pending (d ∷ cs))) (value-outside effect q low (Some d.pivot) c.pending o (outside-first low d.pivot q high p.1 out) p.2.1)
      ∙ all_pending-outside levels q (Some d.pivot) high (d ∷ cs) o p.3 (outside-rest low d.pivot q high p.0 out)

  below-outside : (levels : ℕ) (q : Key) (low high : Option Key) (cs : List (Child V M)) → ChildrenLie levels low high cs → Outside low high q → find key_cmp q (below cs) ≡ None
  below-outside levels q low high [] p out = refl
  below-outside levels q low high (c ∷ []) p out = ap (find key_cmp q) (append-nil _) ∙ tree-outside effect levels q low high c.tree p.0 out
  below-outside levels q low high (c ∷ d ∷ cs) p out =
      find-append q (holds effect c.tree) (below (d ∷ cs))
      ∙ ap (λ z. or_else z (find key_cmp q (below (d ∷ cs)))) (tree-outside effect levels q low (Some d.pivot) c.tree p.2.0 (outside-first low d.pivot q high p.1 out))
      ∙ below-outside levels q (Some d.pivot) high (d ∷ cs) p.3 (outside-rest low d.pivot q high p.0 out)

  seen-outside : (levels : ℕ) (q : Key) (low high : Option Key) (c : Child V M) → ChildLies levels low high c → Outside low high q → seen q c ≡ None
  seen-outside levels q low high c g out = value-outside effect q low high c.pending _ out g.1 ∙ tree-outside effect levels q low high c.tree g.0 out

  seen_in-outside : (levels : ℕ) (q : Key) (low high : Option Key) (cs : List (Child V M)) → ChildrenLie levels low high cs → Outside low high q → seen_in q cs ≡ None
  seen_in-outside levels q low high [] p out = refl
  seen_in-outside levels q low high (c ∷ []) p out = or_else-None (seen q c) ∙ seen-outside levels q low high c p out
  seen_in-outside levels q low high (c ∷ d ∷ cs) p out =
      ap (λ z. or_else z (seen_in q (d ∷ cs))) (seen-outside levels q low (Some d.pivot) c p.2 (outside-first low d.pivot q high p.1 out))
      ∙ seen_in-outside levels q (Some d.pivot) high (d ∷ cs) p.3 (outside-rest low d.pivot q high p.0 out)

  -- All pending messages, applied to the rows of the children together, give the same as each child's share, applied to its rows.
  pub value-below-seen : (levels : ℕ) (q : Key) (low high : Option Key) (cs : List (Child V M)) → ChildrenLie levels low high cs
      → value_after effect q (all_pending cs) (find key_cmp q (below cs)) ≡ seen_in q cs
  value-below-seen levels q low high [] p = refl
  value-below-seen levels q low high (c ∷ []) p =
      ap (λ w. value_after effect q w (find key_cmp q (below (c ∷ [])))) (append-nil c.pending)
      ∙ ap (λ r. value_after effect q c.pending (find key_cmp q r)) (append-nil (holds effect c.tree))
      ∙ sym (or_else-None (seen q c))
  value-below-seen levels q low high (c ∷ d ∷ cs) p =
      value-append effect q c.pending (all_pending (d ∷ cs)) _
      ∙ ap (λ r. value_after effect q (all_pending (d ∷ cs)) (value_after effect q c.pending r)) (find-append q (holds effect c.tree) (below (d ∷ cs)))
      ∙ elim (sides q d.pivot) [
        | inl left ↦
            let out : Outside (Some d.pivot) high q = inl left in
            all_pending-outside levels q (Some d.pivot) high (d ∷ cs) _ p.3 out
            ∙ ap (λ z. value_after effect q c.pending (or_else (find key_cmp q (holds effect c.tree)) z)) (below-outside levels q (Some d.pivot) high (d ∷ cs) p.3 out)
            ∙ ap (value_after effect q c.pending) (or_else-None (find key_cmp q (holds effect c.tree)))
            ∙ sym (ap (or_else (seen q c)) (seen_in-outside levels q (Some d.pivot) high (d ∷ cs) p.3 out) ∙ or_else-None (seen q c))
        | inr right ↦
            let out : Outside low (Some d.pivot) q = inr right in
            ap (value_after effect q (all_pending (d ∷ cs))) (value-outside effect q low (Some d.pivot) c.pending _ out p.2.1
            ∙ ap (λ z. or_else z (find key_cmp q (below (d ∷ cs)))) (tree-outside effect levels q low (Some d.pivot) c.tree p.2.0 out))
            ∙ value-below-seen levels q (Some d.pivot) high (d ∷ cs) p.3
            ∙ sym (ap (λ z. or_else z (seen_in q (d ∷ cs))) (seen-outside levels q low (Some d.pivot) c p.2 out))
      ]
