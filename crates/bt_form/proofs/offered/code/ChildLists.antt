-- Children are their nodes with their pivots and their bins.
use Rattle.std.proofs.Common.{◌≡◌, ◌≤◌, ◌<◌, ◌+◌, ◌-◌, ◌==◌, ℕ, zero, suc, Bool, true, false, List, [], ◌∷◌, ◌++◌, drop, length}
use Rattle.std.proofs.Common.{map, replicate, refl, sym, ap, subst, ◌∙◌, append_assoc, arith, length-append}
use Rattle.std.proofs.lemmas.Bool.{ne_eqb}
use Rattle.std.proofs.lemmas.List.{nil_from_length}
use Rattle.std.specs.List.{zip}
use Rattle.bt_keycode.specs.Keys.{Key}
use Rattle.bt_value.specs.Lists.{concatenation}
use Rattle.bt_messages.specs.Bins.{LieBetween}
use Rattle.bt_form.specs.Children.{AreDivided, after_pivot, with_pending}
use Rattle.bt_form.specs.Fits.{IsLed}
use Rattle.bt_form.specs.Flushes.{Child, gathered, none_pending}
use Rattle.bt_form.specs.Messages.{Messages}
use Rattle.bt_form.specs.Trees.{Siblings, Tree, inner, nodes, pivots_of, with_pivots}
use Rattle.bt_form.proofs.offered.code.SiblingParts.{zip-items, zip-keys, zip-length}
use Rattle.bt_form.proofs.offered.flushes.Children.{all_pending}
use Rattle.bt_form.proofs.offered.flushes.Divisions.{joined-pending, length-with_pending, pending-with_pending, pivots-with_pending, stripped-with_pending}

pub replicate-more : {X : Type 0} (n : ℕ) (x : X) → replicate n x ++ x ∷ [] ≡ replicate (suc n) x
replicate-more zero x = refl
replicate-more (suc n) x = ap (λ z. x ∷ z) (replicate-more n x)

-- The lists that hold children: the first pivot, the pivots after it, the trees and the bins.
pub record ListedChildren (V M : Type 0) : Type 0 where
  pub first : Key
  pub pivots : List Key
  pub trees : List (Tree V M)
  pub bins : List (Messages M)

module _ {V M : Type 0} where
  abbrev pub listed : Key → List Key → List (Tree V M) → List (Messages M) → ListedChildren V M
  listed first pivots trees bins = record { first = first; pivots = pivots; trees = trees; bins = bins }

  abbrev pub children_of : ListedChildren V M → List (Child V M)
  children_of c = with_pending (zip (c.first ∷ c.pivots) c.trees) c.bins

  -- a bin for each tree, and a pivot between any two
  pub record AreAligned (c : ListedChildren V M) : Type 0 where
    pub bins : length c.bins ≡ length c.trees
    pub pivots : length c.pivots ≡ length c.trees - 1

  pub same_children : (first : Key) {ps qs : List Key} {ts us : List (Tree V M)} {bs cs : List (Messages M)} → ps ≡ qs → ts ≡ us → bs ≡ cs →
      children_of (listed first ps ts bs) ≡ children_of (listed first qs us cs)
  same_children first pivots trees bins = λ i. children_of (listed first (pivots i) (trees i) (bins i))

  -- ---- one more, or more

  with_pending-append : (ks ls : List Key) (ts us : List (Tree V M)) (bs cs : List (Messages M)) → length ts ≡ length ks → length bs ≡ length ts →
      with_pending (zip (ks ++ ls) (ts ++ us)) (bs ++ cs) ≡ with_pending (zip ks ts) bs ++ with_pending (zip ls us) cs
  with_pending-append [] ls [] us [] cs same long = refl
  with_pending-append [] ls [] us (b ∷ bs) cs same long = absurd (omega (arith, long))
  with_pending-append [] ls (t ∷ ts) us bs cs same long = absurd (omega (arith, same))
  with_pending-append (k ∷ ks) ls [] us bs cs same long = absurd (omega (arith, same))
  with_pending-append (k ∷ ks) ls (t ∷ ts) us [] cs same long = absurd (omega (arith, long))
  with_pending-append (k ∷ ks) ls (t ∷ ts) us (b ∷ bs) cs same long =
      ap (λ z. record { pivot = k; tree = t; pending = b } ∷ z) (with_pending-append ks ls ts us bs cs (omega (arith, same)) (omega (arith, long)))

  -- The pivot before the first of more children: it comes first if there is none before it, and after the others otherwise.
  pub record IsNext (old : ListedChildren V M) (k now : Key) (qs : List Key) : Type 0 where
    pub begins : length old.trees ≡ 0 → (now ≡ k) × (qs ≡ old.pivots)
    pub goes_on : 0 < length old.trees → (now ≡ old.first) × (qs ≡ old.pivots ++ k ∷ [])

  pub is_next : {old : ListedChildren V M} {k now : Key} {qs : List Key} {begins : Bool} (len : ℕ) → begins ≡ (len == 0) → len ≡ length old.trees →
      (begins ≡ true → (now ≡ k) × (qs ≡ old.pivots)) → (begins ≡ false → (now ≡ old.first) × (qs ≡ old.pivots ++ k ∷ [])) → IsNext old k now qs
  is_next zero test count at_first later = record { begins = λ none. at_first test; goes_on = λ some. absurd (omega (arith, some, count)) }
  is_next (suc n) test count at_first later = record {
    begins = λ none. absurd (omega (arith, none, count));
    goes_on = λ some. later (test ∙ ne_eqb (suc n) 0 (λ e. omega (arith, e)));
  }

  -- more children come after others
  pub record AreAppended (old more new : ListedChildren V M) : Type 0 where
    pub between : List Key
    pub next : IsNext old more.first new.first between
    pub pivots : new.pivots ≡ between ++ more.pivots
    pub trees : new.trees ≡ old.trees ++ more.trees
    pub bins : new.bins ≡ old.bins ++ more.bins

  module _ {old more new : ListedChildren V M} (aligned : AreAligned old) (appended : AreAppended old more new) where
    pub all_appended : children_of new ≡ children_of old ++ children_of more
    all_appended = (λ i. with_pending (zip (new.first ∷ appended.pivots i) (appended.trees i)) (appended.bins i)) ∙ at (length old.trees) refl
      where
        at : (n : ℕ) → length old.trees ≡ n →
            with_pending (zip (new.first ∷ appended.between ++ more.pivots) (old.trees ++ more.trees)) (old.bins ++ more.bins) ≡ children_of old ++ children_of more
        at zero none =
            let no_trees : old.trees ≡ [] = nil_from_length old.trees none in
            let no_bins : old.bins ≡ [] = nil_from_length old.bins (omega (arith, aligned.bins, none)) in
            let no_pivots : old.pivots ≡ [] = nil_from_length old.pivots (omega (arith, aligned.pivots, none)) in
            let here = appended.next.begins none in
            (λ i. with_pending (zip (here.0 i ∷ (here.1 ∙ no_pivots) i ++ more.pivots) (no_trees i ++ more.trees)) (no_bins i ++ more.bins))
            ∙ sym (ap (λ ts. with_pending (zip (old.first ∷ old.pivots) ts) old.bins ++ children_of more) no_trees)
        at (suc n) some =
            let here = appended.next.goes_on (omega (arith, some)) in
            ap (λ k. with_pending (zip (k ∷ appended.between ++ more.pivots) (old.trees ++ more.trees)) (old.bins ++ more.bins)) here.0
            ∙ ap (λ ks. with_pending (zip (old.first ∷ ks) (old.trees ++ more.trees)) (old.bins ++ more.bins))
            (ap (λ ks. ks ++ more.pivots) here.1 ∙ append_assoc old.pivots (more.first ∷ []) more.pivots)
            ∙ with_pending-append (old.first ∷ old.pivots) (more.first ∷ more.pivots) old.trees more.trees old.bins more.bins (omega (arith, aligned.pivots, some)) aligned.bins

    -- there is still one pivot fewer, and a bin for each
    pub still_aligned : AreAligned more → 0 < length more.trees → AreAligned new
    still_aligned added some = record {
      bins = omega (arith, aligned.bins, added.bins, ap length appended.bins, trees, length-append old.bins more.bins);
      pivots = at (length old.trees) refl;
    }
      where
        trees : length new.trees ≡ length old.trees + length more.trees
        trees = ap length appended.trees ∙ length-append old.trees more.trees

        pivots : length new.pivots ≡ length appended.between + length more.pivots
        pivots = ap length appended.pivots ∙ length-append appended.between more.pivots

        at : (n : ℕ) → length old.trees ≡ n → length new.pivots ≡ length new.trees - 1
        at zero none = omega (arith, trees, pivots, none, some, aligned.pivots, added.pivots, ap length (appended.next.begins none).1)
        at (suc n) more_than_none =
            let between = ap length (appended.next.goes_on (omega (arith, more_than_none))).1 in
            omega (arith, trees, pivots, more_than_none, some, aligned.pivots, added.pivots, between, length-append old.pivots (more.first ∷ []))

  -- nothing is pending for siblings with empty bins
  empty-with_pending : (xs : Siblings V M) → with_pending xs (replicate (length xs) []) ≡ none_pending xs
  empty-with_pending [] = refl
  empty-with_pending (x ∷ xs) = ap (λ z. record { pivot = x.0; tree = x.1; pending = [] } ∷ z) (empty-with_pending xs)

  -- the siblings that replace a child
  pub siblings_listed : (k : Key) (p : Messages M) {xs : Siblings V M} (ls : List Key) (us : List (Tree V M)) {count : ℕ} → xs ≡ with_pivots ls us → length us ≡ length ls + 1 →
      count ≡ length us → children_of (listed k ls us (p ∷ replicate (count - 1) [])) ≡ after_pivot k p xs
  siblings_listed k p ls [] apart one counted = absurd (omega (arith, one))
  siblings_listed k p ls (u ∷ us) {count} apart one counted =
      let few : length us ≤ length ls = omega (arith, one) in
      let others : count - 1 ≡ length (zip ls us) = omega (arith, counted, zip-length ls us few) in
      ap (λ n. record { pivot = k; tree = u; pending = p } ∷ with_pending (zip ls us) (replicate n [])) others
      ∙ ap (λ z. record { pivot = k; tree = u; pending = p } ∷ z) (empty-with_pending (zip ls us))
      ∙ ap (after_pivot k p) (sym apart)

  -- siblings with the empty key, without pending messages
  pub after_pivot-nothing : (xs : Siblings V M) (k : Key) (p : Messages M) → k ≡ [] → p ≡ [] → IsLed xs → after_pivot k p xs ≡ none_pending xs
  after_pivot-nothing [] k p none empty led = absurd led
  after_pivot-nothing (x ∷ xs) k p none empty led =
      ap (λ j. record { pivot = j; tree = x.1; pending = p } ∷ none_pending xs) (none ∙ sym led) ∙ ap (λ q. record { pivot = x.0; tree = x.1; pending = q } ∷ none_pending xs) empty

  -- ---- all of them

  module _ (first : Key) (ps : List Key) (ts : List (Tree V M)) (bs : List (Messages M)) (long : length bs ≡ length ts) (few : length ts ≤ length ps + 1) where
    abbrev pub whole : List (Child V M)
    whole = with_pending (zip (first ∷ ps) ts) bs

    zipped : length (zip (first ∷ ps) ts) ≡ length ts
    zipped = zip-length (first ∷ ps) ts (omega (arith, few))

    same : length bs ≡ length (zip (first ∷ ps) ts)
    same = omega (arith, long, zipped)

    pub length-whole : length whole ≡ length ts
    length-whole = omega (arith, length-with_pending (zip (first ∷ ps) ts) bs same, zipped)

    trees-with_pending : (xs : Siblings V M) (ds : List (Messages M)) → length ds ≡ length xs → map (λ c. c.tree) (with_pending xs ds) ≡ map (λ x. x.1) xs
    trees-with_pending [] ds e = refl
    trees-with_pending (x ∷ xs) [] e = absurd (omega (arith, e))
    trees-with_pending (x ∷ xs) (d ∷ ds) e = ap (λ z. x.1 ∷ z) (trees-with_pending xs ds (omega (arith, e)))

    pub trees-whole : map (λ c. c.tree) whole ≡ ts
    trees-whole = trees-with_pending (zip (first ∷ ps) ts) bs same ∙ zip-items (first ∷ ps) ts (omega (arith, few))

    pub bins-whole : map (λ c. c.pending) whole ≡ bs
    bins-whole = pending-with_pending (zip (first ∷ ps) ts) bs same

  -- the pivots after the first
  pub pivots-whole : (first : Key) (ps : List Key) (ts : List (Tree V M)) (bs : List (Messages M)) → length bs ≡ length ts → length ps ≡ length ts - 1 →
      map (λ c. c.pivot) (drop 1 (with_pending (zip (first ∷ ps) ts) bs)) ≡ ps
  pivots-whole first ps [] bs long fewer = sym (nil_from_length ps (omega (arith, fewer)))
  pivots-whole first ps (t ∷ ts) [] long fewer = absurd (omega (arith, long))
  pivots-whole first ps (t ∷ ts) (b ∷ bs) long fewer =
      pivots-with_pending (zip ps ts) bs (omega (arith, long, zip-length ps ts (omega (arith, fewer)))) ∙ zip-keys ps ts (omega (arith, fewer))

  -- ---- one node of them

  module _ (first : Key) (ps : List Key) (ts : List (Tree V M)) (bs : List (Messages M)) (long : length bs ≡ length ts) (one : length ts ≡ length ps + 1) where
    gathered-is : gathered (with_pending (zip (first ∷ ps) ts) bs) ≡ (first, inner (nodes (with_pivots ps ts)) (concatenation bs))
    gathered-is = of ts bs long one
      where
        of : (ts : List (Tree V M)) (bs : List (Messages M)) → length bs ≡ length ts → length ts ≡ length ps + 1 →
            gathered (with_pending (zip (first ∷ ps) ts) bs) ≡ (first, inner (nodes (with_pivots ps ts)) (concatenation bs))
        of [] bs long one = absurd (omega (arith, one))
        of (t ∷ ts) [] long one = absurd (omega (arith, long))
        of (t ∷ ts) (b ∷ bs) long one =
            let xs = zip ps ts in
            let same : length bs ≡ length xs = omega (arith, long, zip-length ps ts (omega (arith, one))) in
            ap (λ ys. (first, inner (nodes (([], t) ∷ ys)) (b ++ all_pending (with_pending xs bs)))) (stripped-with_pending xs bs same)
            ∙ ap (λ ms. (first, inner (nodes (([], t) ∷ xs)) (b ++ ms))) (sym (joined-pending (with_pending xs bs)) ∙ ap concatenation (pending-with_pending xs bs same))

    pub node_of_all : (t : Tree V M) (xs : Siblings V M) (ds : List (Messages M)) → xs ≡ with_pivots ps ts → ds ≡ bs → t ≡ inner (nodes xs) (concatenation ds) →
        (first, t) ≡ gathered (with_pending (zip (first ∷ ps) ts) bs)
    node_of_all t xs ds children bins is =
        ap (λ u. (first, u)) (is ∙ ap (λ ys. inner (nodes ys) (concatenation ds)) children ∙ ap (λ es. inner (nodes (with_pivots ps ts)) (concatenation es)) bins) ∙ sym gathered-is

    pub bins_lie : (xs : Siblings V M) → xs ≡ with_pivots ps ts → AreDivided (with_pending (zip (first ∷ ps) ts) bs) → LieBetween (pivots_of xs) bs
    bins_lie xs children h = subst (λ ys. LieBetween (pivots_of ys) bs) (sym children) (of ts bs long one h)
      where
        of : (ts : List (Tree V M)) (bs : List (Messages M)) → length bs ≡ length ts → length ts ≡ length ps + 1
            → AreDivided (with_pending (zip (first ∷ ps) ts) bs) → LieBetween (pivots_of (with_pivots ps ts)) bs
        of [] bs long one h = absurd (omega (arith, one))
        of (t ∷ ts) [] long one h = absurd (omega (arith, long))
        of (t ∷ ts) (b ∷ bs) long one h =
            let xs = zip ps ts in
            let same : length bs ≡ length xs = omega (arith, long, zip-length ps ts (omega (arith, one))) in
            subst (λ ks. LieBetween ks (b ∷ bs)) (pivots-with_pending xs bs same) (subst (λ ds. LieBetween (map (λ c. c.pivot) (with_pending xs bs)) (b ∷ ds)) (pending-with_pending xs bs same) h)
