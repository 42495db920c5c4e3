-- Children and rows in parts, as the code makes them.
use Rattle.std.proofs.Common.{◌*◌, ◌≡◌, ℕ, max, List, [], ◌∷◌, ◌++◌, length, map, take, drop, ◌≤◌, sym, ap, subst, ◌∙◌, append-nil, append_assoc, arith, length-drop, take-append-drop}
use Rattle.std.proofs.Math.Nat.{mul-le-mul_left}
use Rattle.std.proofs.lemmas.List.{drop_all}
use Rattle.std.specs.Int.{div_ceil}
use Rattle.bt_keycode.specs.Keys.{Key}
use Rattle.bt_message.specs.declared.message.Message.{Message}
use Rattle.bt_form.specs.Plans.{total}
use Rattle.bt_form.specs.declared.shape.TheConstants.{LARGEST_FANOUT}
use Rattle.bt_form.specs.Children.{AreDivided}
use Rattle.bt_form.specs.Messages.{Rows}
use Rattle.bt_form.specs.Trees.{Shape, Siblings, Tree, leaf}
use Rattle.bt_form.specs.Deals.{deal, even, parted}
use Rattle.bt_form.specs.Flushes.{Child, first_key, gathered, grouped, leaves, pivot_first}
use Rattle.bt_form.proofs.offered.deals.Parts.{AllPositive, positive-even, total-even}
use Rattle.bt_form.proofs.offered.deals.PartSizes.{Each, deal-one, enough-parts, even-at_most, length-even}
use Rattle.bt_form.proofs.offered.flushes.Groups.{as_leaf}
use Rattle.bt_form.proofs.offered.flushes.Divisions.{divided-rest}

-- ---- groups of children

-- enough groups that none is larger than the largest fanout
pub enough_groups : (n m k : ℕ) → 1 ≤ m → m ≤ LARGEST_FANOUT → k ≡ div_ceil n m → 1 ≤ k → n ≤ k * LARGEST_FANOUT
enough_groups n m k some most parts one =
    let same : max 1 (div_ceil n m) ≡ k = omega (arith, parts, one) in
    let fits : n ≤ k * m = subst (λ j. n ≤ j * m) same (enough-parts n m some) in
    omega (arith, fits, mul-le-mul_left k most)

module _ {V M : Type 0} where
  -- the children of the parts of these sizes, each part under one node
  abbrev pub groups_of : List ℕ → List (Child V M) → Siblings V M
  groups_of ns cs = map gathered (parted ns cs)

  -- Sizes of parts that are still to be made, none of them empty or larger than the largest fanout, and the children for them.
  pub record AreLeft (ns : List ℕ) (cs : List (Child V M)) : Type 0 where
    pub some : AllPositive ns
    pub few : Each (λ n. n ≤ LARGEST_FANOUT) ns
    pub fit : total ns ≤ length cs
    pub divided : AreDivided cs

  -- all sizes at first, for the same children as these
  pub all_left : (n k : ℕ) (cs whole : List (Child V M)) → 1 ≤ k → k ≤ length whole → n ≡ length whole → cs ≡ whole → AreDivided whole →
      length whole ≤ k * LARGEST_FANOUT → AreLeft (even n k) cs
  all_left n k cs whole some few count same divided within = record {
    some = positive-even n k some (omega (arith, few, count));
    few = even-at_most n k LARGEST_FANOUT some (omega (arith, count, within));
    fit = omega (arith, total-even n k some, count, ap length same);
    divided = subst AreDivided (sym same) divided;
  }

  module _ (n : ℕ) (ns all : List ℕ) (cs : List (Child V M)) (next : all ≡ n ∷ ns) (left : AreLeft all cs) where
    pub next_some : 1 ≤ n
    next_some = (subst AllPositive next left.some).0

    pub next_few : n ≤ LARGEST_FANOUT
    next_few = (subst (Each (λ n. n ≤ LARGEST_FANOUT)) next left.few).0

    pub next_fits : n ≤ length cs
    next_fits = omega (arith, left.fit, ap total next)

    pub rest_left : (rest : List (Child V M)) → rest ≡ drop n cs → AreLeft ns rest
    rest_left rest is = record {
      some = (subst AllPositive next left.some).1;
      few = (subst (Each (λ n. n ≤ LARGEST_FANOUT)) next left.few).1;
      fit = omega (arith, left.fit, ap total next, ap length is, length-drop n cs);
      divided = subst AreDivided (sym is) (divided-rest (take n cs) (drop n cs) (subst AreDivided (sym (take-append-drop n cs)) left.divided));
    }

    -- one more group
    pub group_made : (made now : Siblings V M) (k : Key) (t : Tree V M) (rest : List (Child V M)) → (k, t) ≡ gathered (take n cs) → rest ≡ drop n cs → now ≡ made ++ (k, t) ∷ [] →
        now ++ groups_of ns rest ≡ made ++ groups_of all cs
    group_made made now k t rest group is pushed =
        ap (λ xs. xs ++ groups_of ns rest) pushed ∙ append_assoc made ((k, t) ∷ []) (groups_of ns rest)
        ∙ ap (λ x. made ++ x ∷ groups_of ns rest) group ∙ ap (λ ds. made ++ gathered (take n cs) ∷ groups_of ns ds) is ∙ sym (ap (λ ms. made ++ groups_of ms cs) next)

    -- the first group, which has the empty key
    pub first_made : (made : Siblings V M) (k : Key) (t : Tree V M) (rest : List (Child V M)) → (k, t) ≡ gathered (take n cs) → rest ≡ drop n cs → made ≡ ([], t) ∷ [] →
        made ++ groups_of ns rest ≡ pivot_first [] (groups_of all cs)
    first_made made k t rest group is begun =
        ap (λ xs. xs ++ groups_of ns rest) begun ∙ ap (λ (x : Key × Tree V M). ([], x.1) ∷ groups_of ns rest) group
        ∙ ap (λ ds. ([], (gathered (take n cs)).1) ∷ groups_of ns ds) is ∙ sym (ap (λ ms. pivot_first [] (groups_of ms cs)) next)

  -- none is left
  pub groups_done : (n k p : ℕ) (made wanted : Siblings V M) (rest : List (Child V M)) → 1 ≤ k → k ≤ p → made ++ groups_of (drop p (even n k)) rest ≡ wanted → made ≡ wanted
  groups_done n k p made wanted rest some end kept =
      sym (append-nil made) ∙ sym (ap (λ ns. made ++ groups_of ns rest) (drop_all p (even n k) (omega (arith, length-even n k some, end)))) ∙ kept

  -- children within the fanout are one group
  pub one_group : (s : Shape) (cs : List (Child V M)) (k : Key) (t : Tree V M) → 1 ≤ s.fanout → length cs ≤ s.fanout → (k, t) ≡ gathered cs → ([], t) ∷ [] ≡ grouped s cs
  one_group s cs k t some few is = ap (λ (x : Key × Tree V M). ([], x.1) ∷ []) is ∙ sym (ap (λ gs. pivot_first [] (map gathered gs)) (deal-one s.fanout cs some few))

  -- more children give as many groups as needed
  pub many_groups : (s : Shape) (cs : List (Child V M)) (n m k : ℕ) → n ≡ length cs → m ≡ s.fanout → k ≡ div_ceil n m → 1 ≤ k → pivot_first [] (groups_of (even (length cs) k) cs) ≡ grouped s cs
  many_groups s cs n m k same most parts some =
      ap (λ j. pivot_first [] (groups_of (even (length cs) j) cs)) (of k (div_ceil (length cs) s.fanout) (parts ∙ ap (λ j. div_ceil j m) same ∙ ap (div_ceil (length cs)) most) some)
    where
      of : (k j : ℕ) → k ≡ j → 1 ≤ k → k ≡ max 1 j
      of k j e l = omega (arith, e, l)

-- ---- leaves

module _ {V D : Type 0} where
  -- one more leaf
  pub more_leaves : (made : Siblings V (Message V D)) (k : Key) (part : Rows V) (left : List (Rows V)) → k ≡ first_key (λ r. r.0) part →
      (made ++ (k, leaf part) ∷ []) ++ map (as_leaf (Message V D)) left ≡ made ++ map (as_leaf (Message V D)) (part ∷ left)
  more_leaves made k part left e =
      append_assoc made ((k, leaf part) ∷ []) (map (as_leaf (Message V D)) left) ∙ ap (λ j. made ++ (j, leaf part) ∷ map (as_leaf (Message V D)) left) e

  pub leaves_done : (s : Shape) (rows : Rows V) (parts : List (Rows V)) (first : Rows V) (rest left : List (Rows V)) (start made : Siblings V (Message V D))
      → parts ≡ deal s.leaf rows → parts ≡ first ∷ rest →
      start ≡ ([], leaf first) ∷ [] → made ++ map (as_leaf (Message V D)) left ≡ start ++ map (as_leaf (Message V D)) rest → left ≡ [] → made ≡ leaves s rows
  leaves_done s rows parts first rest left start made dealt split begun kept empty =
      sym (append-nil made) ∙ ap (λ ps. made ++ map (as_leaf (Message V D)) ps) (sym empty) ∙ kept
      ∙ ap (λ xs. xs ++ map (as_leaf (Message V D)) rest) begun
      ∙ ap (λ ps. pivot_first [] (map (as_leaf (Message V D)) ps)) (sym split ∙ dealt)

-- rows within the size of a leaf are one leaf
pub one_leaf : {V M : Type 0} (s : Shape) (rows : Rows V) → 1 ≤ s.leaf → length rows ≤ s.leaf → leaves {M = M} s rows ≡ ([], leaf rows) ∷ []
one_leaf {M = M} s rows some few = ap (λ gs. pivot_first [] (map (as_leaf M) gs)) (deal-one s.leaf rows some few)
