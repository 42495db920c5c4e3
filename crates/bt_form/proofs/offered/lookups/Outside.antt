-- A key outside the limits of a tree is not in it.
use Rattle.std.proofs.Common.{◌≡◌, ℕ, zero, suc, true, false, cond, [], ◌∷◌, ◌++◌, refl, ap, ◌∙◌, append-nil, ◌⊎◌, inl, inr}
use Rattle.std.specs.Ordering.{eq_by_cmp}
use Rattle.std.specs.FinMap.{find}
use Rattle.std.specs.declared.option.Option.{Option}
use Rattle.std.specs.declared.option.Option.TheVariants.{None, Some}
use Rattle.bt_keycode.specs.Keys.{Key, key_cmp, is_before, IsPast, IsBelow, Within, AllWithin}
use Rattle.bt_form.specs.Messages.{Rows, Messages, value_after}
use Rattle.bt_form.specs.Trees.{Tree, leaf, inner, Nodes, none, node, Siblings, children}
use Rattle.bt_form.specs.Flushes.{holds, nodes_hold, all_hold}
use Rattle.bt_form.specs.Fits.{RowsLie, Lies, SiblingsLie}
use Rattle.bt_keycode.proofs.offered.Order.{before_chain, before_later, not_after, apart, apart_back}
use Rattle.bt_form.proofs.offered.rows.Values.{find-append, find-rows, value-above, value-below, or_else}

abbrev IsUnder : Option Key → Key → Type 0
IsUnder None q = ⊥
IsUnder (Some low) q = is_before q low ≡ true

abbrev IsOver : Option Key → Key → Type 0
IsOver None q = ⊥
IsOver (Some high) q = is_before q high ≡ false

abbrev pub Outside : Option Key → Option Key → Key → Type 0
Outside low high q = IsUnder low q ⊎ IsOver high q

-- a key is not in both of two neighbours
pub outside-first : (low : Option Key) (k q : Key) (high : Option Key) → IsBelow high k → Outside low high q → Outside low (Some k) q
outside-first low k q high b (inl o) = inl o
outside-first low k q None b (inr o) = absurd o
outside-first low k q (Some high) b (inr o) = inr (not_after k q (before_later k high q b o))

pub outside-rest : (low : Option Key) (k q : Key) (high : Option Key) → IsPast low k → Outside low high q → Outside (Some k) high q
outside-rest None k q high l (inl o) = absurd o
outside-rest (Some low) k q high l (inl o) = inl (before_chain q low k o l)
outside-rest low k q high l (inr o) = inr o

not_found : (q k : Key) (low high : Option Key) → Outside low high q → Within low high k → eq_by_cmp key_cmp q k ≡ false
not_found q k None high (inl o) w = absurd o
not_found q k (Some low) high (inl o) w = apart q low k o w.from
not_found q k low None (inr o) w = absurd o
not_found q k low (Some high) (inr o) w = apart_back k high q w.below o

rows-outside : {V : Type 0} (q : Key) (low high : Option Key) (rs : Rows V) → Outside low high q → RowsLie low high rs → find key_cmp q rs ≡ None
rows-outside q low high [] o b = refl
rows-outside q low high (r ∷ []) o b = ap (λ t. cond t (Some r.1) None) (not_found q r.0 low high o b)
rows-outside q low high (r ∷ s ∷ rs) o b =
    ap (λ t. cond t (Some r.1) (find key_cmp q (s ∷ rs))) (not_found q r.0 low (Some s.0) (outside-first low s.0 q high b.1 o) b.2)
    ∙ rows-outside q (Some s.0) high (s ∷ rs) (outside-rest low s.0 q high b.0 o) b.3

module _ {V M : Type 0} (effect : Option V → M → Option V) where
  -- messages to other keys change nothing
  pub value-outside : (q : Key) (low high : Option Key) (ms : Messages M) (o : Option V) → Outside low high q → AllWithin low high ms → value_after effect q ms o ≡ o
  value-outside q None high ms o (inl out) h = absurd out
  value-outside q (Some low) high ms o (inl out) h = value-above effect q low high ms o out h
  value-outside q low None ms o (inr out) h = absurd out
  value-outside q low (Some high) ms o (inr out) h = value-below effect q high low ms o out h

  pub nodes_hold-children : (ns : Nodes V M) → nodes_hold effect ns ≡ all_hold effect (children ns)
  nodes_hold-children none = refl
  nodes_hold-children (node k t ns) = ap (λ z. holds effect t ++ z) (nodes_hold-children ns)

  siblings-outside : (levels : ℕ) (each : (q : Key) (low high : Option Key) (t : Tree V M) → Lies levels low high t → Outside low high q → find key_cmp q (holds effect t) ≡ None)
      (q : Key) (low high : Option Key) (xs : Siblings V M) → SiblingsLie levels low high xs → Outside low high q → find key_cmp q (all_hold effect xs) ≡ None
  siblings-outside levels each q low high [] b o = refl
  siblings-outside levels each q low high (x ∷ []) b o = ap (find key_cmp q) (append-nil _) ∙ each q low high x.1 b o
  siblings-outside levels each q low high (x ∷ y ∷ xs) b o =
      find-append q (holds effect x.1) (all_hold effect (y ∷ xs))
      ∙ ap (λ z. or_else z (find key_cmp q (all_hold effect (y ∷ xs)))) (each q low (Some y.0) x.1 b.2 (outside-first low y.0 q high b.1 o))
      ∙ siblings-outside levels each q (Some y.0) high (y ∷ xs) b.3 (outside-rest low y.0 q high b.0 o)

  -- a tree has nothing outside its limits
  pub tree-outside : (levels : ℕ) (q : Key) (low high : Option Key) (t : Tree V M) → Lies levels low high t → Outside low high q → find key_cmp q (holds effect t) ≡ None
  tree-outside zero q low high (leaf rs) l o = rows-outside q low high rs o l
  tree-outside zero q low high (inner ns b) l o = absurd l
  tree-outside (suc levels) q low high (leaf rs) l o = absurd l
  tree-outside (suc levels) q low high (inner ns b) l o =
      find-rows effect q b (nodes_hold effect ns)
      ∙ value-outside q low high b _ o l.0
      ∙ ap (find key_cmp q) (nodes_hold-children ns)
      ∙ siblings-outside levels (λ q low high t l o. tree-outside levels q low high t l o) q low high (children ns) l.2 o

  -- nor do siblings
  pub all-outside : (levels : ℕ) (q : Key) (low high : Option Key) (xs : Siblings V M) → SiblingsLie levels low high xs → Outside low high q → find key_cmp q (all_hold effect xs) ≡ None
  all-outside levels = siblings-outside levels (tree-outside levels)
