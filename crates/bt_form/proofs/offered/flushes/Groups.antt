-- Rows dealt into leaves, and children grouped under inner nodes: they stay in the same places, and hold the same rows.
use Rattle.std.proofs.Common.{◌≡◌, ℕ, zero, suc, ◌<◌, ◌≤◌, length, arith, List, [], ◌∷◌, ◌++◌, map, refl, sym, ap, subst, ◌∙◌, append-nil}
use Rattle.std.specs.FinMap.{find}
use Rattle.std.specs.declared.option.Option.{Option}
use Rattle.std.specs.declared.option.Option.TheVariants.{Some}
use Rattle.bt_keycode.specs.Keys.{Key, key_cmp, Within, AllWithin, IsSorted, SideBySide}
use Rattle.bt_form.specs.Messages.{Rows, value_after}
use Rattle.bt_form.specs.Deals.{deal}
use Rattle.bt_form.specs.Trees.{Shape, Tree, leaf, Nodes, none, node, Siblings, children, nodes}
use Rattle.bt_form.specs.Flushes.{Child, pivot_first, first_key, gathered, grouped, leaves, holds, nodes_hold, all_hold}
use Rattle.bt_form.specs.Fits.{RowsLie, IsLed, Lies, SiblingsLie}
use Rattle.bt_form.proofs.offered.deals.Parts.{NonEmpty, joined, joined-deal, full-deal, deal-nothing}
use Rattle.bt_form.proofs.offered.keys.Limits.{within-append, within-below, within-from}
use Rattle.bt_form.proofs.offered.keys.SortedLists.{sorted-append}
use Rattle.bt_form.proofs.offered.keys.SideBySide.{side-groups, side-weaken, side-map, led-side}
use Rattle.bt_form.proofs.offered.rows.Values.{find-append, find-rows, or_else}
use Rattle.bt_form.proofs.offered.lookups.Outside.{nodes_hold-children}
use Rattle.bt_form.proofs.offered.flushes.Children.{ChildLies, ChildrenLie, all_pending, seen_in, seen-append, below, value-below-seen}

pub children-nodes : {V M : Type 0} (xs : Siblings V M) → children (nodes xs) ≡ xs
children-nodes [] = refl
children-nodes (x ∷ xs) = ap (λ z. x ∷ z) (children-nodes xs)

pub nodes-children : {V M : Type 0} (ns : Nodes V M) → nodes (children ns) ≡ ns
nodes-children none = refl
nodes-children (node k t ns) = ap (node k t) (nodes-children ns)

-- parts of a list that isn't empty
pub some-of : {X : Type 0} (gs : List (List X)) (x : X) (xs : List X) → joined gs ≡ x ∷ xs → NonEmpty gs
some-of [] x xs e = absurd (cc)
some-of (g ∷ gs) x xs e = tt

-- a list that isn't empty
pub some_length : {X : Type 0} (xs : List X) → NonEmpty xs → 1 ≤ length xs
some_length [] n = absurd n
some_length (x ∷ xs) n = omega arith

-- there is a part, also if there are no items
pub deal-some : {X : Type 0} (most : ℕ) (xs : List X) → 0 < most → NonEmpty (deal most xs)
deal-some most [] l = subst NonEmpty (sym (deal-nothing most l)) tt
deal-some most (x ∷ xs) l = some-of _ x xs (joined-deal most (x ∷ xs))

pub led-map : {X Y : Type 0} (f : X → Key × Y) (xs : List X) → NonEmpty xs → IsLed (pivot_first [] (map f xs))
led-map f [] n = absurd n
led-map f (x ∷ xs) n = refl

pub led-full : {X : Type 0} (xs : List (Key × X)) → IsLed xs → NonEmpty xs
led-full [] l = absurd l
led-full (x ∷ xs) l = tt

-- ---- leaves

-- a part of the rows as a leaf with its smallest key
abbrev pub as_leaf : {V : Type 0} (M : Type 0) → Rows V → Key × Tree V M
as_leaf M rows = (first_key (λ r. r.0) rows, leaf rows)

pub leaves-lie : {V : Type 0} (M : Type 0) (s : Shape) (low high : Option Key) (rs : Rows V) → 0 < s.leaf → RowsLie low high rs → SiblingsLie {M = M} zero low high (leaves s rs)
leaves-lie {V} M s low high [] l b = subst (λ gs. SiblingsLie {V = V} zero low high (pivot_first [] (map (as_leaf M) gs))) (sym (deal-nothing s.leaf l)) tt
leaves-lie {V} M s low high (r ∷ rs) l b =
    led-side (λ l h t. Lies {V = V} {M = M} zero l h t) [] low high (map (as_leaf M) (deal s.leaf (r ∷ rs)))
    (side-map {Y = Key × Tree V M} (as_leaf M) (λ x. x.0) (λ l h x. Lies zero l h x.1) low high (deal s.leaf (r ∷ rs))
    (side-groups (λ r. r.0) (λ l h r. Within l h r.0) (λ l h g. RowsLie l h g) (λ low high g n b. b) low high (deal s.leaf (r ∷ rs)) (full-deal s.leaf r rs l)
    (subst (RowsLie low high) (sym (joined-deal s.leaf (r ∷ rs))) b)))

pub leaves-led : {V : Type 0} (M : Type 0) (s : Shape) (rs : Rows V) → 0 < s.leaf → IsLed (leaves {M = M} s rs)
leaves-led M s [] l = led-map (as_leaf M) (deal s.leaf []) (subst NonEmpty (sym (deal-nothing s.leaf l)) tt)
leaves-led M s (r ∷ rs) l = led-map (as_leaf M) (deal s.leaf (r ∷ rs)) (some-of _ r rs (joined-deal s.leaf (r ∷ rs)))

-- ---- children under one node

abbrev pub stripped : {V M : Type 0} → List (Child V M) → Siblings V M
stripped = map (λ c. (c.pivot, c.tree))

module _ {V M : Type 0} where
  pub all_pending-within : (levels : ℕ) (low high : Option Key) (cs : List (Child V M)) → ChildrenLie levels low high cs → AllWithin low high (all_pending cs)
  all_pending-within levels low high [] p = tt
  all_pending-within levels low high (c ∷ []) p = subst (AllWithin low high) (sym (append-nil c.pending)) p.1
  all_pending-within levels low high (c ∷ d ∷ cs) p =
      within-append low high c.pending _ (within-below low d.pivot high c.pending p.1 p.2.1)
      (within-from low d.pivot high _ p.0 (all_pending-within levels (Some d.pivot) high (d ∷ cs) p.3))

  pub all_pending-sorted : (levels : ℕ) (low high : Option Key) (cs : List (Child V M)) → ChildrenLie levels low high cs → IsSorted (all_pending cs)
  all_pending-sorted levels low high [] p = tt
  all_pending-sorted levels low high (c ∷ []) p = subst IsSorted (sym (append-nil c.pending)) p.2
  all_pending-sorted levels low high (c ∷ d ∷ cs) p =
      sorted-append low d.pivot high c.pending _ p.2.2 (all_pending-sorted levels (Some d.pivot) high (d ∷ cs) p.3) p.2.1 (all_pending-within levels (Some d.pivot) high (d ∷ cs) p.3)

  pub stripped-lie : (levels : ℕ) (low high : Option Key) (cs : List (Child V M)) → ChildrenLie levels low high cs → SiblingsLie levels low high (stripped cs)
  stripped-lie levels low high cs p =
      side-map (λ c. (c.pivot, c.tree)) (λ x. x.0) (λ l h x. Lies levels l h x.1) low high cs
      (side-weaken (λ c. c.pivot) (ChildLies levels) (λ l h c. Lies levels l h c.tree) (λ l h c lies. lies.0) low high cs p)

  stripped-led : (cs : List (Child V M)) → NonEmpty cs → IsLed (pivot_first [] (stripped cs))
  stripped-led [] n = absurd n
  stripped-led (c ∷ cs) n = refl

  pub gathered-lies : (levels : ℕ) (low high : Option Key) (g : List (Child V M)) → NonEmpty g → ChildrenLie levels low high g → Lies (suc levels) low high (gathered g).1
  gathered-lies levels low high g n p = (
    all_pending-within levels low high g p,
    all_pending-sorted levels low high g p,
    subst (SiblingsLie levels low high) (sym (children-nodes (pivot_first [] (stripped g))))
        (led-side (λ l h t. Lies levels l h t) [] low high (stripped g) (stripped-lie levels low high g p)),
    subst IsLed (sym (children-nodes (pivot_first [] (stripped g)))) (stripped-led g n),
  )

  -- the groups into which children are dealt lie side by side
  pub parts-lie : (levels : ℕ) (s : Shape) (low high : Option Key) (c : Child V M) (cs : List (Child V M)) → 0 < s.fanout → ChildrenLie levels low high (c ∷ cs) →
      SideBySide (first_key (λ c. c.pivot)) (ChildrenLie levels) low high (deal s.fanout (c ∷ cs))
  parts-lie levels s low high c cs l p =
      side-groups (λ c. c.pivot) (ChildLies levels) (ChildrenLie levels) (λ low high g n b. b) low high (deal s.fanout (c ∷ cs)) (full-deal s.fanout c cs l)
      (subst (ChildrenLie levels low high) (sym (joined-deal s.fanout (c ∷ cs))) p)

  pub grouped-lie : (levels : ℕ) (s : Shape) (low high : Option Key) (c : Child V M) (cs : List (Child V M)) → 0 < s.fanout
      → ChildrenLie levels low high (c ∷ cs) → SiblingsLie (suc levels) low high (grouped s (c ∷ cs))
  grouped-lie levels s low high c cs l p =
      led-side (λ l h t. Lies (suc levels) l h t) [] low high _
      (side-map gathered (λ x. x.0) (λ l h x. Lies (suc levels) l h x.1) low high (deal s.fanout (c ∷ cs))
      (side-groups (λ c. c.pivot) (ChildLies levels) (λ l h g. Lies (suc levels) l h (gathered g).1) (gathered-lies levels) low high (deal s.fanout (c ∷ cs)) (full-deal s.fanout c cs l)
      (subst (ChildrenLie levels low high) (sym (joined-deal s.fanout (c ∷ cs))) p)))

-- ---- what they hold

module _ {V M : Type 0} (effect : Option V → M → Option V) where
  pub all-pivot_first : (k : Key) (xs : Siblings V M) → all_hold effect (pivot_first k xs) ≡ all_hold effect xs
  all-pivot_first k [] = refl
  all-pivot_first k (x ∷ xs) = refl

  all-leaves : (gs : List (Rows V)) → all_hold effect (map (as_leaf M) gs) ≡ joined gs
  all-leaves [] = refl
  all-leaves (g ∷ gs) = ap (λ z. g ++ z) (all-leaves gs)

  pub leaves-hold : (s : Shape) (rs : Rows V) → all_hold effect (leaves s rs) ≡ rs
  leaves-hold s rs = all-pivot_first [] (map (as_leaf M) (deal s.leaf rs)) ∙ all-leaves (deal s.leaf rs) ∙ joined-deal s.leaf rs

  find-stripped : (q : Key) (cs : List (Child V M)) → find key_cmp q (all_hold effect (stripped cs)) ≡ find key_cmp q (below effect cs)
  find-stripped q [] = refl
  find-stripped q (c ∷ cs) =
      find-append q (holds effect c.tree) (all_hold effect (stripped cs))
      ∙ ap (or_else (find key_cmp q (holds effect c.tree))) (find-stripped q cs)
      ∙ sym (find-append q (holds effect c.tree) (below effect cs))

  find-gathered : (levels : ℕ) (q : Key) (low high : Option Key) (g : List (Child V M)) → ChildrenLie levels low high g → find key_cmp q (holds effect (gathered g).1) ≡ seen_in effect q g
  find-gathered levels q low high g p =
      find-rows effect q (all_pending g) (nodes_hold effect (nodes (pivot_first [] (stripped g))))
      ∙ ap (λ rs. value_after effect q (all_pending g) (find key_cmp q rs))
      (nodes_hold-children effect (nodes (pivot_first [] (stripped g))) ∙ ap (all_hold effect) (children-nodes (pivot_first [] (stripped g))) ∙ all-pivot_first [] (stripped g))
      ∙ ap (value_after effect q (all_pending g)) (find-stripped q g)
      ∙ value-below-seen effect levels q low high g p

  find-groups : (levels : ℕ) (q : Key) (low high : Option Key) (gs : List (List (Child V M))) → SideBySide (first_key (λ c. c.pivot)) (ChildrenLie levels) low high gs →
      find key_cmp q (all_hold effect (map gathered gs)) ≡ seen_in effect q (joined gs)
  find-groups levels q low high [] b = refl
  find-groups levels q low high (g ∷ []) b =
      ap (find key_cmp q) (append-nil (holds effect (gathered g).1)) ∙ find-gathered levels q low high g b ∙ ap (seen_in effect q) (sym (append-nil g))
  find-groups levels q low high (g ∷ h ∷ gs) b =
      find-append q (holds effect (gathered g).1) (all_hold effect (map gathered (h ∷ gs)))
      ∙ ap (λ z. or_else z (find key_cmp q (all_hold effect (map gathered (h ∷ gs))))) (find-gathered levels q low (Some (first_key (λ c. c.pivot) h)) g b.2)
      ∙ ap (or_else (seen_in effect q g)) (find-groups levels q (Some (first_key (λ c. c.pivot) h)) high (h ∷ gs) b.3)
      ∙ sym (seen-append effect q g (joined (h ∷ gs)))

  pub find-grouped : (levels : ℕ) (s : Shape) (q : Key) (low high : Option Key) (c : Child V M) (cs : List (Child V M)) → 0 < s.fanout → ChildrenLie levels low high (c ∷ cs) →
      find key_cmp q (all_hold effect (grouped s (c ∷ cs))) ≡ seen_in effect q (c ∷ cs)
  find-grouped levels s q low high c cs l p =
      ap (find key_cmp q) (all-pivot_first [] (map gathered (deal s.fanout (c ∷ cs))))
      ∙ find-groups levels q low high (deal s.fanout (c ∷ cs)) (parts-lie levels s low high c cs l p)
      ∙ ap (seen_in effect q) (joined-deal s.fanout (c ∷ cs))
