-- Each flush is large, so there are few flushes.
use Rattle.std.proofs.Common.{ℕ, zero, suc, ◌≡◌, ◌∙◌, ◌+◌, ◌*◌, ◌-◌, ◌<◌, ◌≤◌, ◌⊎◌, inl, inr, Bool, true, false, cond, not, nat_eq, List}
use Rattle.std.proofs.Common.{[], ◌∷◌, ◌++◌, length, map, take, drop, ap, sym, subst, refl, arith, le_refl, Option, None, Some}
use Rattle.std.proofs.lemmas.Bool.{cases_lt, cond-false, cond-true, eqb-false, eqb-true, le-leb, lt-leb}
use Rattle.std.proofs.Math.Nat.{mul-le-mul_left, mul-le-mul_right}
use Rattle.std.specs.List.{AllByRecursion, flat_map}
use Rattle.bt_keycode.specs.Keys.{Key, is_before}
use Rattle.bt_messages.proofs.offered.Loads.{load-append, load-more, load-none, load-with_messages}
use Rattle.bt_form.specs.Deals.{deal}
use Rattle.bt_form.specs.Fits.{AreSized, HasShape, IsSized, Lies, SiblingsLie}
use Rattle.bt_form.specs.Flushes.{Child, Flush, absorb, crown_within, flush_at, first_key, flushed, gathered, grouped, leaves, loads, none_pending, pending_load, pivot_first, shared, sunk}
use Rattle.bt_form.specs.Loops.{after_turns, opened_at, opened_items}
use Rattle.bt_form.specs.Messages.{Meaning, Messages, Rows, before, from, load, rows_after, with_messages}
use Rattle.bt_form.specs.Plans.{fullest, most, place_of, total}
use Rattle.bt_form.specs.Trees.{Nodes, Shape, Siblings, Tree, children, height, height_below, inner, leaf, node, nodes, none}
use Rattle.bt_form.specs.declared.mode.Mode.TheVariants.{Absorb}
use Rattle.bt_node.proofs.offered.FlushSteps.{AllNonEmpty, anywhere, fit_there, full-deal, joined, joined-deal, led-full, length-shared, some_length}
use Rattle.bt_node.proofs.offered.ShapedTrees.{sunk-has_shape}
use Rattle.bt_laws.proofs.LeafCounts.{node_wide, nodes_wide}
use Rattle.bt_laws.specs.FlushSizes.{FlushesAreFew, FlushesAreFewInAll, FlushesAreLarge, arrived, sunk_all, flush_count}
use Rattle.bt_laws.specs.FlushSizes.{flush_count_at, flush_counts, levels_ahead, levels_pending, levels_pending_below}

-- ---- the loop

one_if_heavy : ℕ → ℕ
one_if_heavy n = cond (nat_eq n 0) 0 1

module _ {X : Type 0} (weight : X → ℕ) where
  -- how many items have a weight
  heavy : List X → ℕ
  heavy [] = 0
  heavy (x ∷ xs) = one_if_heavy (weight x) + heavy xs

  AllLight : List X → Type 0
  AllLight [] = Unit {0}
  AllLight (x ∷ xs) = (weight x ≡ 0) × AllLight xs

  heavy-append : (xs ys : List X) → heavy (xs ++ ys) ≡ heavy xs + heavy ys
  unfolding heavy
  heavy-append [] ys = omega arith
  heavy-append (x ∷ xs) ys = omega (arith, heavy-append xs ys)

  heavy-light : (xs : List X) → AllLight xs → heavy xs ≡ 0
  unfolding heavy AllLight one_if_heavy
  heavy-light [] light = refl
  heavy-light (x ∷ xs) light =
      let none : one_if_heavy (weight x) ≡ 0 = ap one_if_heavy light.0 in
      omega (arith, none, heavy-light xs light.1)

  heavy-few : (xs : List X) → heavy xs ≤ length xs
  unfolding heavy one_if_heavy
  heavy-few [] = omega arith
  heavy-few (x ∷ xs) = elim (nat_eq (weight x) 0) as (λ b. cond b 0 1 + heavy xs ≤ suc (length xs)) [ true ↦ omega (arith, heavy-few xs) | false ↦ omega (arith, heavy-few xs) ]

  -- the total is at most the number of items with a weight times the largest weight
  total-heavy : (xs : List X) (m : ℕ) → most (map weight xs) ≤ m → total (map weight xs) ≤ heavy xs * m
  unfolding heavy one_if_heavy
  total-heavy [] m l = omega arith
  total-heavy (x ∷ xs) m l = by_weight (nat_eq (weight x) 0) refl (total-heavy xs m (omega (arith, l)))
    where
      by_weight : (b : Bool) → nat_eq (weight x) 0 ≡ b → total (map weight xs) ≤ heavy xs * m → weight x + total (map weight xs) ≤ (cond b 0 1 + heavy xs) * m
      by_weight true light rest = let none : weight x ≡ 0 = eqb-true (weight x) 0 light in omega (arith, none, rest)
      by_weight false some rest = let own : weight x ≤ m = omega (arith, l) in omega (arith, own, rest)

  -- if the items are over capacity, the heaviest has its share of it
  share : (xs : List X) (k capacity : ℕ) → heavy xs ≤ k → capacity < total (map weight xs) → capacity < k * most (map weight xs)
  share xs k capacity few over =
      let all = total-heavy xs (most (map weight xs)) (le_refl (most (map weight xs))) in
      let more = mul-le-mul_right (most (map weight xs)) few in
      omega (arith, all, more, over)

positive : (k m capacity : ℕ) → capacity < k * m → 0 < m
positive k zero capacity l = absurd (omega (arith, l))
positive k (suc m) capacity l = omega arith

module _ {X : Type 0} (weight : X → ℕ) (parts : X → List X) where
  -- the heaviest item, those before it and those after it
  record IsTaken (m i : ℕ) (xs : List X) : Type 0 where
    first : List X
    item : X
    others : List X
    whole : xs ≡ first ++ item ∷ others
    weighs : weight item ≡ m
    opened : opened_at weight parts i xs ≡ first ++ (parts item ++ others)
    taken : take 1 (drop i xs) ≡ item ∷ []

  later : (m i : ℕ) (x : X) (xs : List X) → IsTaken m i xs → IsTaken m (suc i) (x ∷ xs)
  later m i x xs t = record {
    first = x ∷ t.first;
    item = t.item;
    others = t.others;
    whole = ap (λ ys. x ∷ ys) t.whole;
    weighs = t.weighs;
    opened = ap (λ ys. x ∷ ys) t.opened;
    taken = t.taken;
  }

  heaviest : (m : ℕ) (xs : List X) → 0 < m → m ≤ most (map weight xs) → most (map weight xs) ≤ m → IsTaken m (place_of m (map weight xs)) xs
  heaviest m [] some from to = absurd (omega (arith, some, from))
  heaviest m (x ∷ xs) some from to = by_first (nat_eq (weight x) m) refl (λ others. heaviest m xs some others (omega (arith, to)))
    where
      by_first : (b : Bool) → nat_eq (weight x) m ≡ b → (m ≤ most (map weight xs) → IsTaken m (place_of m (map weight xs)) xs) → IsTaken m (cond b 0 (suc (place_of m (map weight xs)))) (x ∷ xs)
      by_first true is rest = record { first = []; item = x; others = xs; whole = refl; weighs = eqb-true (weight x) m is; opened = refl; taken = refl }
      by_first false other rest = later m (place_of m (map weight xs)) x xs (rest (omega (arith, from, eqb-false (weight x) m other)))

  module _ (light : (x : X) → AllLight weight (parts x)) where
    -- after the heaviest is replaced, fewer items have a weight
    fewer : (m i : ℕ) (xs : List X) (t : IsTaken m i xs) → heavy weight (opened_at weight parts i xs) ≤ heavy weight xs
    fewer m i xs t =
        let before = ap (heavy weight) t.whole ∙ heavy-append weight t.first (t.item ∷ t.others) in
        let after = ap (heavy weight) t.opened ∙ heavy-append weight t.first (parts t.item ++ t.others) in
        let inside = heavy-append weight (parts t.item) t.others in
        let none = heavy-light weight (parts t.item) (light t.item) in
        let one = heavy-append weight (t.item ∷ []) t.others in
        omega (arith, before, after, inside, none, one)

    -- each item that is replaced weighs more than its part of the capacity
    large_from : (most_items capacity turns : ℕ) (xs : List X) → heavy weight xs ≤ most_items → AllByRecursion (λ x. capacity < most_items * weight x) (opened_items weight parts capacity turns xs)
    large_from k capacity zero xs few = tt
    large_from k capacity (suc turns) xs few = elim (cases_lt capacity (total (map weight xs))) [
      | inl over ↦
          let m = most (map weight xs) in
          let enough : capacity < k * m = share weight xs k capacity few over in
          let some : 0 < m = positive k m capacity enough in
          let t = heaviest m xs some (le_refl m) (le_refl m) in
          let rest = large_from k capacity turns (opened_at weight parts (fullest (map weight xs)) xs) (omega (arith, few, fewer m (fullest (map weight xs)) xs t)) in
          let own : capacity < k * weight t.item = subst (λ n. capacity < k * n) (sym t.weighs) enough in
          let turn : opened_items weight parts capacity (suc turns) xs ≡ t.item ∷ opened_items weight parts capacity turns (opened_at weight parts (fullest (map weight xs)) xs) =
          cond-false _ _ _ (lt-leb (total (map weight xs)) capacity over) ∙ ap (λ ys. ys ++ opened_items weight parts capacity turns (opened_at weight parts (fullest (map weight xs)) xs)) t.taken in
          subst (AllByRecursion (λ x. capacity < k * weight x)) (sym turn) (own, rest)
      | inr fits ↦ subst (AllByRecursion (λ x. capacity < k * weight x)) (sym (cond-true _ _ _ (le-leb (total (map weight xs)) capacity fits))) tt
    ]

-- ---- the cost of flushes

step_sum : (fanout m pot e count capacity after : ℕ) → suc capacity ≤ fanout * m → count * suc capacity + fanout * after ≤ fanout * (pot + m * e)
    → suc count * suc capacity + fanout * after ≤ fanout * (m * suc e + pot)
step_sum fanout m pot e count capacity after large paid = omega (arith, large, paid)

loop_sum : (fanout count others capacity first inside item following rest whole : ℕ) → suc count * suc capacity + fanout * inside ≤ fanout * item
    → others * suc capacity + fanout * rest ≤ fanout * (first + (inside + following))
    → whole ≡ first + (item + following) → (suc count + others) * suc capacity + fanout * rest ≤ fanout * whole
loop_sum fanout count others capacity first inside item following rest whole step more is = omega (arith, step, more, ap (λ n. fanout * n) is)

module _ {V M : Type 0} (meaning : Meaning V M) (shape : Shape) where
  abbrev room : Messages M → ℕ
  room = load meaning.weigh shape.measure

  abbrev w : Child V M → ℕ
  w = pending_load meaning.weigh shape

  -- the levels that messages in buffers may still move down, with a bound on the height of the node
  abbrev mutual
    pot : ℕ → Tree V M → ℕ
    pot h (leaf rows) = 0
    pot zero (inner ns buffer) = 0
    pot (suc h) (inner ns buffer) = room buffer * h + pots h ns

    pots : ℕ → Nodes V M → ℕ
    pots h none = 0
    pots h (node k t ns) = pot h t + pots h ns

  -- the same for siblings, and for children with what is pending for them
  abbrev all_pot : ℕ → Siblings V M → ℕ
  all_pot h [] = 0
  all_pot h (x ∷ xs) = pot h x.1 + all_pot h xs

  abbrev child_pot : ℕ → List (Child V M) → ℕ
  child_pot h [] = 0
  child_pot h (c ∷ cs) = (w c * h + pot h c.tree) + child_pot h cs

  child_pot-append : (h : ℕ) (cs ds : List (Child V M)) → child_pot h (cs ++ ds) ≡ child_pot h cs + child_pot h ds
  child_pot-append h [] ds = omega arith
  child_pot-append h (c ∷ cs) ds = omega (arith, child_pot-append h cs ds)

  child_pot-none : (h : ℕ) (xs : Siblings V M) → child_pot h (none_pending xs) ≡ all_pot h xs
  child_pot-none h [] = refl
  child_pot-none h (x ∷ xs) =
      let none : room [] * h ≡ 0 * h = ap (λ n. n * h) (load-none meaning.weigh shape.measure) in
      omega (arith, none, child_pot-none h xs)

  all_pot-pivot_first : (h : ℕ) (k : Key) (xs : Siblings V M) → all_pot h (pivot_first k xs) ≡ all_pot h xs
  all_pot-pivot_first h k [] = refl
  all_pot-pivot_first h k (x ∷ xs) = refl

  none_pending-light : (xs : Siblings V M) → AllLight w (none_pending xs)
  unfolding AllLight
  none_pending-light [] = tt
  none_pending-light (x ∷ xs) = (load-none meaning.weigh shape.measure, none_pending-light xs)

  -- ---- children

  -- a child that is no larger than the shape allows, with a bound on its height, or one for which nothing is pending
  IsReady : ℕ → Child V M → Type 0
  IsReady h c = (IsSized meaning.weigh shape c.tree × (height c.tree ≤ h)) ⊎ (w c ≡ 0)

  AreReady : ℕ → List (Child V M) → Type 0
  AreReady h [] = Unit {0}
  AreReady h (c ∷ cs) = IsReady h c × AreReady h cs

  ready-append : (h : ℕ) (cs ds : List (Child V M)) → AreReady h cs → AreReady h ds → AreReady h (cs ++ ds)
  unfolding AreReady
  ready-append h [] ds first rest = rest
  ready-append h (c ∷ cs) ds first rest = (first.0, ready-append h cs ds first.1 rest)

  ready-first : (h : ℕ) (cs ds : List (Child V M)) → AreReady h (cs ++ ds) → AreReady h cs
  unfolding AreReady
  ready-first h [] ds all = tt
  ready-first h (c ∷ cs) ds all = (all.0, ready-first h cs ds all.1)

  ready-rest : (h : ℕ) (cs ds : List (Child V M)) → AreReady h (cs ++ ds) → AreReady h ds
  unfolding AreReady
  ready-rest h [] ds all = all
  ready-rest h (c ∷ cs) ds all = ready-rest h cs ds all.1

  ready-light : (h : ℕ) (cs : List (Child V M)) → AllLight w cs → AreReady h cs
  unfolding AreReady IsReady AllLight
  ready-light h [] light = tt
  ready-light h (c ∷ cs) light = (inr light.0, ready-light h cs light.1)

  flushed-none : (flush : Flush V M) (c : Child V M) → AllLight w (flushed flush c)
  flushed-none flush c = none_pending-light (pivot_first c.pivot (flush c.tree c.pending))

  flushed-pot : (h : ℕ) (flush : Flush V M) (c : Child V M) → child_pot h (flushed flush c) ≡ all_pot h (flush c.tree c.pending)
  flushed-pot h flush c = child_pot-none h (pivot_first c.pivot (flush c.tree c.pending)) ∙ all_pot-pivot_first h c.pivot (flush c.tree c.pending)

  -- ---- the loop over children

  -- the flushes below a node, each of at least its size, are paid for by the levels that messages may still move down
  Pays : ℕ → Type 0
  Pays e = (t : Tree V M) (packet : Messages M) → IsSized meaning.weigh shape t → height t ≤ suc e →
      flush_count_at meaning shape (suc e) t packet * suc shape.buffer + shape.fanout * all_pot (suc e) (flush_at meaning Absorb (suc e) shape t packet) ≤
      shape.fanout * (pot (suc e) t + room packet * e)

  abbrev counted : ℕ → List (Child V M) → ℕ
  counted e cs = total (map (λ c. suc (flush_count_at meaning shape (suc e) c.tree c.pending)) cs)

  module _ (e : ℕ) (pays : Pays e) where
    abbrev f : Flush V M
    f = flush_at meaning Absorb (suc e) shape

    -- one child is flushed
    one_paid : (c : Child V M) (m : ℕ) → w c ≡ m → shape.buffer < shape.fanout * m → IsReady (suc e) c →
        suc (flush_count_at meaning shape (suc e) c.tree c.pending) * suc shape.buffer + shape.fanout * child_pot (suc e) (flushed f c) ≤ shape.fanout * (w c * suc e + pot (suc e) c.tree)
    unfolding IsReady Pays
    one_paid c m is large (inl sized) =
        let below = pays c.tree c.pending sized.0 sized.1 in
        let enough : shape.buffer < shape.fanout * w c = subst (λ n. shape.buffer < shape.fanout * n) (sym is) large in
        subst (λ n. suc (flush_count_at meaning shape (suc e) c.tree c.pending) * suc shape.buffer + shape.fanout * n ≤ shape.fanout *
        (w c * suc e + pot (suc e) c.tree)) (sym (flushed-pot (suc e) f c))
        (step_sum shape.fanout (w c) (pot (suc e) c.tree) e (flush_count_at meaning shape (suc e) c.tree c.pending) shape.buffer (all_pot (suc e) (f c.tree c.pending)) enough below)
    one_paid c m is large (inr empty) =
        let nothing : shape.fanout * m ≡ shape.fanout * 0 = ap (λ n. shape.fanout * n) (sym is ∙ empty) in
        absurd (omega (arith, large, nothing))

    ready_item : (m i : ℕ) (cs : List (Child V M)) (t : IsTaken w (flushed f) m i cs) → AreReady (suc e) cs → IsReady (suc e) t.item
    unfolding AreReady
    ready_item m i cs t ready = (ready-rest (suc e) t.first (t.item ∷ t.others) (subst (AreReady (suc e)) t.whole ready)).0

    ready_on : (m i : ℕ) (cs : List (Child V M)) (t : IsTaken w (flushed f) m i cs) → AreReady (suc e) cs → AreReady (suc e) (opened_at w (flushed f) i cs)
    unfolding AreReady
    ready_on m i cs t ready =
        let all = subst (AreReady (suc e)) t.whole ready in
        subst (AreReady (suc e)) (sym t.opened)
        (ready-append (suc e) t.first (flushed f t.item ++ t.others) (ready-first (suc e) t.first (t.item ∷ t.others) all)
        (ready-append (suc e) (flushed f t.item) t.others (ready-light (suc e) (flushed f t.item) (flushed-none f t.item)) (ready-rest (suc e) t.first (t.item ∷ t.others) all).1))

    loop_paid : (turns : ℕ) (cs : List (Child V M)) → AreReady (suc e) cs → heavy w cs ≤ shape.fanout →
        counted e (opened_items w (flushed f) shape.buffer turns cs) * suc shape.buffer + shape.fanout * child_pot (suc e)
        (after_turns w (flushed f) shape.buffer turns cs) ≤ shape.fanout * child_pot (suc e) cs
    loop_paid zero cs ready few = omega arith
    loop_paid (suc turns) cs ready few = elim (cases_lt shape.buffer (total (map w cs))) [
      | inl over ↦
          let m = most (map w cs) in
          let i = fullest (map w cs) in
          let enough : shape.buffer < shape.fanout * m = share w cs shape.fanout shape.buffer few over in
          let t = heaviest w (flushed f) m cs (positive shape.fanout m shape.buffer enough) (le_refl m) (le_refl m) in
          let ys = opened_at w (flushed f) i cs in
          let more = loop_paid turns ys (ready_on m i cs t ready) (omega (arith, few, fewer w (flushed f) (flushed-none f) m i cs t)) in
          let closed = lt-leb (total (map w cs)) shape.buffer over in
          let items_is : opened_items w (flushed f) shape.buffer (suc turns) cs ≡ t.item ∷ opened_items w (flushed f) shape.buffer turns ys =
          cond-false _ _ _ closed ∙ ap (λ zs. zs ++ opened_items w (flushed f) shape.buffer turns ys) t.taken in
          let after_is : after_turns w (flushed f) shape.buffer (suc turns) cs ≡ after_turns w (flushed f) shape.buffer turns ys = cond-false _ _ _ closed in
          let whole : child_pot (suc e) cs ≡ child_pot (suc e) t.first + ((w t.item * suc e + pot (suc e) t.item.tree) + child_pot (suc e) t.others) =
          ap (child_pot (suc e)) t.whole ∙ child_pot-append (suc e) t.first (t.item ∷ t.others) in
          let next : child_pot (suc e) ys ≡ child_pot (suc e) t.first + (child_pot (suc e) (flushed f t.item) + child_pot (suc e) t.others) =
          ap (child_pot (suc e)) t.opened ∙ child_pot-append (suc e) t.first (flushed f t.item ++ t.others)
          ∙ ap (λ n. child_pot (suc e) t.first + n) (child_pot-append (suc e) (flushed f t.item) t.others) in
          let paid = one_paid t.item m t.weighs enough (ready_item m i cs t ready) in
          let both : (t.item ∷ opened_items w (flushed f) shape.buffer turns ys, after_turns w (flushed f) shape.buffer turns ys)
          ≡ (opened_items w (flushed f) shape.buffer (suc turns) cs, after_turns w (flushed f) shape.buffer (suc turns) cs) = λ j. (sym items_is j, sym after_is j) in
          subst (λ (p : List (Child V M) × List (Child V M)). counted e p.0 * suc shape.buffer + shape.fanout * child_pot (suc e) p.1 ≤ shape.fanout * child_pot (suc e) cs) both
          (loop_sum shape.fanout (flush_count_at meaning shape (suc e) t.item.tree t.item.pending) (counted e (opened_items w (flushed f) shape.buffer turns ys)) shape.buffer
          (child_pot (suc e) t.first) (child_pot (suc e) (flushed f t.item)) (w t.item * suc e + pot (suc e) t.item.tree) (child_pot (suc e) t.others)
          (child_pot (suc e) (after_turns w (flushed f) shape.buffer turns ys)) (child_pot (suc e) cs) paid
          (subst (λ n. counted e (opened_items w (flushed f) shape.buffer turns ys) * suc shape.buffer + shape.fanout * child_pot (suc e)
          (after_turns w (flushed f) shape.buffer turns ys) ≤ shape.fanout * n) next more)
          whole)
      | inr fits ↦
          let open_still = le-leb (total (map w cs)) shape.buffer fits in
          let items_is : opened_items w (flushed f) shape.buffer (suc turns) cs ≡ [] = cond-true _ _ _ open_still in
          let after_is : after_turns w (flushed f) shape.buffer (suc turns) cs ≡ cs = cond-true _ _ _ open_still in
          let both : ([], cs) ≡ (opened_items w (flushed f) shape.buffer (suc turns) cs, after_turns w (flushed f) shape.buffer (suc turns) cs) = λ j. (sym items_is j, sym after_is j) in
          subst (λ (p : List (Child V M) × List (Child V M)). counted e p.0 * suc shape.buffer + shape.fanout * child_pot (suc e) p.1 ≤ shape.fanout * child_pot (suc e) cs) both (omega arith)
    ]

  -- ---- a node

  height_some : (t : Tree V M) → 1 ≤ height t
  height_some (leaf rows) = omega arith
  height_some (inner ns buffer) = omega arith

  below_some : (ns : Nodes V M) → 1 ≤ length (children ns) → 1 ≤ height_below ns
  below_some none some = absurd (omega (arith, some))
  below_some (node k t ns) some = omega (arith, height_some t)

  -- the messages before a key and those from it on
  divided : (k : Key) (ms : Messages M) → room (before k ms) + room (from k ms) ≡ room ms
  divided k [] = omega (arith, load-none meaning.weigh shape.measure)
  divided k (m ∷ ms) =
      let more = load-more meaning.weigh shape.measure in
      elim (is_before m.0 k) as (λ b. room (cond b (m ∷ before k ms) (before k ms)) + room (cond (not b) (m ∷ from k ms) (from k ms)) ≡ room (m ∷ ms)) [
        | true ↦ omega (arith, more m (before k ms), more m ms, divided k ms)
        | false ↦ omega (arith, more m (from k ms), more m ms, divided k ms)
      ]

  shared_pot : (h : ℕ) (ns : Nodes V M) (b : Messages M) → child_pot h (shared (children ns) b) ≤ room b * h + pots h ns
  shared_pot h none b = omega arith
  shared_pot h (node k t none) b = omega arith
  shared_pot h (node k t (node j u ns)) b =
      let both : (room (before j b) + room (from j b)) * h ≡ room b * h = ap (λ n. n * h) (divided j b) in
      omega (arith, both, shared_pot h (node j u ns) (from j b))

  shared_ready : (h : ℕ) (ns : Nodes V M) (b : Messages M) → AreSized meaning.weigh shape ns → height_below ns ≤ h → AreReady h (shared (children ns) b)
  unfolding AreReady IsReady
  shared_ready h none b sized low = tt
  shared_ready h (node k t none) b sized low = (inl (sized.0, omega (arith, low)), tt)
  shared_ready h (node k t (node j u ns)) b sized low = (inl (sized.0, omega (arith, low)), shared_ready h (node j u ns) (from j b) sized.1 (omega (arith, low)))

  pots-nodes : (h : ℕ) (xs : Siblings V M) → pots h (nodes xs) ≡ all_pot h xs
  pots-nodes h [] = refl
  pots-nodes h (x ∷ xs) = ap (λ n. pot h x.1 + n) (pots-nodes h xs)

  all_pending_of : List (Child V M) → Messages M
  all_pending_of cs = flat_map (λ c. c.pending) cs

  pending_pot : (h : ℕ) (cs : List (Child V M)) → room (all_pending_of cs) * h + all_pot h (map (λ c. (c.pivot, c.tree)) cs) ≡ child_pot h cs
  unfolding all_pending_of
  pending_pot h [] = let none : room [] * h ≡ 0 * h = ap (λ n. n * h) (load-none meaning.weigh shape.measure) in omega (arith, none)
  pending_pot h (c ∷ cs) =
      let both : room (c.pending ++ all_pending_of cs) * h ≡ (w c + room (all_pending_of cs)) * h = ap (λ n. n * h) (load-append meaning.weigh shape.measure c.pending (all_pending_of cs)) in
      omega (arith, both, pending_pot h cs)

  gathered_pot : (h : ℕ) (cs : List (Child V M)) → pot (suc h) (gathered cs).1 ≡ child_pot h cs
  unfolding all_pending_of
  gathered_pot h cs =
      let xs : Siblings V M = map (λ c. (c.pivot, c.tree)) cs in
      ap (λ n. room (all_pending_of cs) * h + n) (pots-nodes h (pivot_first [] xs) ∙ all_pot-pivot_first h [] xs) ∙ pending_pot h cs

  groups_pot : (h : ℕ) (gs : List (List (Child V M))) → all_pot (suc h) (map gathered gs) ≡ child_pot h (joined gs)
  groups_pot h [] = refl
  groups_pot h (g ∷ gs) = omega (arith, gathered_pot h g, groups_pot h gs, child_pot-append h g (joined gs))

  grouped_pot : (h : ℕ) (cs : List (Child V M)) → all_pot (suc h) (grouped shape cs) ≡ child_pot h cs
  grouped_pot h cs = all_pot-pivot_first (suc h) [] (map gathered (deal shape.fanout cs)) ∙ groups_pot h (deal shape.fanout cs) ∙ ap (child_pot h) (joined-deal shape.fanout cs)

  abbrev as_leaf : Rows V → Key × Tree V M
  as_leaf part = (first_key (λ r. r.0) part, leaf part)

  leaf_parts : (h : ℕ) (parts : List (Rows V)) → all_pot h (map as_leaf parts) ≡ 0
  leaf_parts h [] = refl
  leaf_parts h (part ∷ parts) = omega (arith, leaf_parts h parts)

  leaves_pot : (h : ℕ) (rows : Rows V) → all_pot h (leaves shape rows) ≡ 0
  leaves_pot h rows = all_pot-pivot_first h [] (map as_leaf (deal shape.leaf rows)) ∙ leaf_parts h (deal shape.leaf rows)

  node_sum : (count capacity fanout after start packet buffer e pots all : ℕ) → count * suc capacity + fanout * after ≤ fanout * start → start ≤ all * suc e + pots → all ≡ packet + buffer
      → count * suc capacity + fanout * after ≤ fanout * ((buffer * suc e + pots) + packet * suc e)
  node_sum count capacity fanout after start packet buffer e pots all paid most is =
      let more = mul-le-mul_left fanout most in
      let same : fanout * (all * suc e + pots) ≡ fanout * ((packet + buffer) * suc e + pots) = ap (λ n. fanout * (n * suc e + pots)) is in
      omega (arith, paid, more, same)

  leaf_paid : (e : ℕ) (rows : Rows V) (packet : Messages M)
      → flush_count_at meaning shape (suc e) (leaf rows) packet * suc shape.buffer + shape.fanout * all_pot (suc e)
      (flush_at meaning Absorb (suc e) shape (leaf rows) packet)
      ≤ shape.fanout * (pot (suc e) (leaf rows) + room packet * e)
  leaf_paid e rows packet =
      let none : shape.fanout * all_pot (suc e) (leaves shape (rows_after meaning.effect packet rows)) ≡ shape.fanout * 0 =
      ap (λ n. shape.fanout * n) (leaves_pot (suc e) (rows_after meaning.effect packet rows)) in
      omega (arith, none)

  node_paid : (e : ℕ) → Pays e → (ns : Nodes V M) (buffer packet : Messages M) → IsSized meaning.weigh shape (inner ns buffer) → height (inner ns buffer) ≤ suc (suc e) →
      flush_count_at meaning shape (suc (suc e)) (inner ns buffer) packet * suc shape.buffer + shape.fanout * all_pot (suc (suc e))
      (flush_at meaning Absorb (suc (suc e)) shape (inner ns buffer) packet)
      ≤ shape.fanout * (pot (suc (suc e)) (inner ns buffer) + room packet * suc e)
  node_paid e pays ns buffer packet sized low =
      let all = with_messages packet buffer in
      let cs = shared (children ns) all in
      let few : heavy w cs ≤ shape.fanout = omega (arith, heavy-few w cs, length-shared (children ns) all, sized.1) in
      let turns = total (loads meaning.weigh shape cs) in
      let paid = loop_paid e pays turns cs (shared_ready (suc e) ns all sized.3 (omega (arith, low))) few in
      let dealt = grouped_pot (suc e) (after_turns w (flushed (f e pays)) shape.buffer turns cs) in
      let ended = subst (λ n. counted e (opened_items w (flushed (f e pays)) shape.buffer turns cs) * suc shape.buffer + shape.fanout * n ≤ shape.fanout * child_pot (suc e) cs) (sym dealt) paid in
      node_sum (counted e (opened_items w (flushed (f e pays)) shape.buffer turns cs)) shape.buffer shape.fanout
      (all_pot (suc (suc e)) (grouped shape (after_turns w (flushed (f e pays)) shape.buffer turns cs)))
      (child_pot (suc e) cs) (room packet) (room buffer) e (pots (suc e) ns) (room all) ended (shared_pot (suc e) ns all) (load-with_messages meaning.weigh shape.measure packet buffer)

  pays_all : (e : ℕ) → Pays e
  unfolding Pays
  pays_all e (leaf rows) packet sized low = leaf_paid e rows packet
  pays_all zero (inner ns buffer) packet sized low = absurd (omega (arith, low, below_some ns (omega (arith, sized.0))))
  pays_all (suc e) (inner ns buffer) packet sized low = node_paid e (pays_all e) ns buffer packet sized low

  -- ---- whole trees

  mutual
    pot_more : (h k : ℕ) (t : Tree V M) → h ≤ k → pot h t ≤ pot k t
    pot_more h k (leaf rows) l = omega arith
    pot_more zero k (inner ns buffer) l = omega arith
    pot_more (suc h) zero (inner ns buffer) l = absurd (omega (arith, l))
    pot_more (suc h) (suc k) (inner ns buffer) l =
        let own = mul-le-mul_left {m = h} {n = k} (room buffer) (omega (arith, l)) in
        let below = pots_more h k ns (omega (arith, l)) in
        omega (arith, own, below)

    pots_more : (h k : ℕ) (ns : Nodes V M) → h ≤ k → pots h ns ≤ pots k ns
    pots_more h k none l = omega arith
    pots_more h k (node j t ns) l = omega (arith, pot_more h k t l, pots_more h k ns l)

  -- siblings that are at most this high
  AreLow : ℕ → Siblings V M → Type 0
  AreLow h [] = Unit {0}
  AreLow h (x ∷ xs) = (height x.1 ≤ h) × AreLow h xs

  low-pivot_first : (h : ℕ) (k : Key) (xs : Siblings V M) → AreLow h xs → AreLow h (pivot_first k xs)
  unfolding AreLow
  low-pivot_first h k [] low = tt
  low-pivot_first h k (x ∷ xs) low = low

  low-nodes : (h : ℕ) (xs : Siblings V M) → AreLow h xs → height_below (nodes xs) ≤ h
  unfolding AreLow
  low-nodes h [] low = omega arith
  low-nodes h (x ∷ xs) low = omega (arith, low.0, low-nodes h xs low.1)

  low-first : (h : ℕ) (xs ys : Siblings V M) → AreLow h (xs ++ ys) → AreLow h xs
  unfolding AreLow
  low-first h [] ys low = tt
  low-first h (x ∷ xs) ys low = (low.0, low-first h xs ys low.1)

  low-rest : (h : ℕ) (xs ys : Siblings V M) → AreLow h (xs ++ ys) → AreLow h ys
  unfolding AreLow
  low-rest h [] ys low = low
  low-rest h (x ∷ xs) ys low = low-rest h xs ys low.1

  abbrev without : List (Child V M) → Siblings V M
  without cs = map (λ c. (c.pivot, c.tree)) cs

  without-append : (cs ds : List (Child V M)) → without (cs ++ ds) ≡ without cs ++ without ds
  without-append [] ds = refl
  without-append (c ∷ cs) ds = ap (λ (xs : Siblings V M). (c.pivot, c.tree) ∷ xs) (without-append cs ds)

  without-none : (xs : Siblings V M) → without (none_pending xs) ≡ xs
  without-none [] = refl
  without-none (x ∷ xs) = ap (λ (ys : Siblings V M). x ∷ ys) (without-none xs)

  low-groups : (h : ℕ) (gs : List (List (Child V M))) → AreLow h (without (joined gs)) → AreLow (suc h) (map gathered gs)
  unfolding AreLow
  low-groups h [] low = tt
  low-groups h (g ∷ gs) low =
      let both = subst (AreLow h) (without-append g (joined gs)) low in (
        omega (arith, low-nodes h (pivot_first [] (without g)) (low-pivot_first h [] (without g) (low-first h (without g) (without (joined gs)) both))),
        low-groups h gs (low-rest h (without g) (without (joined gs)) both),
      )

  low-grouped : (h : ℕ) (xs : Siblings V M) → AreLow h xs → AreLow (suc h) (grouped shape (none_pending xs))
  low-grouped h xs low =
      let cs = none_pending xs in
      low-pivot_first (suc h) [] (map gathered (deal shape.fanout cs))
      (low-groups h (deal shape.fanout cs) (subst (λ (ds : List (Child V M)). AreLow h (without ds)) (sym (joined-deal shape.fanout cs)) (subst (AreLow h) (sym (without-none xs)) low)))

  -- the single node above siblings has no more levels ahead than they have
  crown_pot : (levels h : ℕ) (xs : Siblings V M) → AreLow h xs → pot (height (crown_within levels shape xs)) (crown_within levels shape xs) ≤ all_pot h xs
  unfolding AreLow
  crown_pot levels h [] low = omega arith
  crown_pot levels h (x ∷ []) low = omega (arith, pot_more (height x.1) h x.1 low.0)
  crown_pot zero h (x ∷ y ∷ xs) low = omega (arith, pot_more (height x.1) h x.1 low.0)
  crown_pot (suc levels) h (x ∷ y ∷ xs) low =
      let all : Siblings V M = x ∷ y ∷ xs in
      let above = crown_pot levels (suc h) (grouped shape (none_pending all)) (low-grouped h all low) in
      omega (arith, above, grouped_pot h (none_pending all), child_pot-none h all)

  -- siblings with this many levels below them are at most that high
  siblings-low : (levels : ℕ) (low high : Option Key) (xs : Siblings V M) → SiblingsLie levels low high xs → AreSized meaning.weigh shape (nodes xs) → AreLow (suc levels) xs
  unfolding AreLow
  siblings-low levels low high [] lie sized = tt
  siblings-low levels low high (x ∷ []) lie sized = (omega (arith, (node_wide meaning.weigh shape levels low high x.1 lie sized.0).high), tt)
  siblings-low levels low high (x ∷ y ∷ xs) lie sized =
      (omega (arith, (node_wide meaning.weigh shape levels low (Some y.0) x.1 lie.2 sized.0).high), siblings-low levels (Some y.0) high (y ∷ xs) lie.3 sized.1)

  sink_sum : (count capacity fanout after above start : ℕ) → above ≤ after → count * suc capacity + fanout * after ≤ fanout * start → count * suc capacity + fanout * above ≤ fanout * start
  sink_sum count capacity fanout after above start less paid =
      let more = mul-le-mul_left fanout less in
      omega (arith, paid, more)

  -- a packet that comes into a tree
  sink_paid : (t : Tree V M) (packet : Messages M) → HasShape meaning.weigh shape t →
      flush_count meaning shape t packet * suc shape.buffer + shape.fanout * pot (height (sunk meaning shape t packet)) (sunk meaning shape t packet) ≤
      shape.fanout * (pot (height t) t + room packet * (height t - 1))
  unfolding Pays
  sink_paid t packet has =
      let high = (node_wide meaning.weigh shape has.levels None None t has.fits.lies has.fits.sized).high in
      let levels : height t - 1 ≡ has.levels = omega (arith, high) in
      let fits = fit_there meaning Absorb shape has.roomy t packet _ refl has.levels None None has.fits (anywhere packet) in
      let low : AreLow (height t) (absorb meaning shape t packet) =
      subst (λ h. AreLow h (absorb meaning shape t packet)) (sym high)
      (siblings-low has.levels None None (absorb meaning shape t packet) fits.lie fits.sized) in
      let paid = subst (λ (h : ℕ). flush_count_at meaning shape h t packet * suc shape.buffer + shape.fanout * all_pot h
      (flush_at meaning Absorb h shape t packet) ≤ shape.fanout * (pot h t + room packet * has.levels)) (sym high)
      (pays_all has.levels t packet has.fits.sized (omega (arith, high))) in
      let ahead = subst (λ (d : ℕ). flush_count meaning shape t packet * suc shape.buffer + shape.fanout * all_pot (height t) (absorb meaning shape t packet) ≤
      shape.fanout * (pot (height t) t + room packet * d)) (sym levels) paid in
      sink_sum (flush_count meaning shape t packet) shape.buffer shape.fanout (all_pot (height t) (absorb meaning shape t packet))
      (pot (height (sunk meaning shape t packet)) (sunk meaning shape t packet))
      (pot (height t) t + room packet * (height t - 1)) (crown_pot (length (absorb meaning shape t packet)) (height t) (absorb meaning shape t packet) low) ahead

  run_sum : (first others capacity fanout next start ahead rest : ℕ) → first * suc capacity + fanout * next ≤ fanout * (start + ahead) → others * suc capacity ≤ fanout * (next + rest)
      → (first + others) * suc capacity ≤ fanout * (start + (ahead + rest))
  run_sum first others capacity fanout next start ahead rest one more = omega (arith, one, more)

  run_paid : (t : Tree V M) (packets : List (Messages M)) → HasShape meaning.weigh shape t
      → flush_counts meaning shape t packets * suc shape.buffer ≤ shape.fanout * (pot (height t) t + levels_ahead meaning shape t packets)
  run_paid t [] has = omega arith
  run_paid t (packet ∷ packets) has =
      let next = sunk meaning shape t packet in
      run_sum (flush_count meaning shape t packet) (flush_counts meaning shape next packets) shape.buffer shape.fanout (pot (height next) next)
      (pot (height t) t) (room packet * (height t - 1)) (levels_ahead meaning shape next packets)
      (sink_paid t packet has) (run_paid next packets (sunk-has_shape meaning shape t has packet))

  -- if all leaves are at the same depth, the bound is the number of levels
  mutual
    pot_is : (levels : ℕ) (low high : Option Key) (t : Tree V M) → Lies levels low high t → IsSized meaning.weigh shape t → pot (suc levels) t ≡ levels_pending meaning shape t
    pot_is zero low high (leaf rows) lies sized = refl
    pot_is (suc levels) low high (leaf rows) lies sized = absurd lies
    pot_is zero low high (inner ns buffer) lies sized = absurd lies
    pot_is (suc levels) low high (inner ns buffer) lies sized =
        let below = (nodes_wide meaning.weigh shape levels low high ns lies.2 sized.3).high (omega (arith, sized.0)) in
        let own : room buffer * suc levels ≡ room buffer * height_below ns = ap (λ n. room buffer * n) (sym below) in
        omega (arith, own, pots_are levels low high ns lies.2 sized.3)

    pots_are : (levels : ℕ) (low high : Option Key) (ns : Nodes V M) → SiblingsLie levels low high (children ns) → AreSized meaning.weigh shape ns
        → pots (suc levels) ns ≡ levels_pending_below meaning shape ns
    pots_are levels low high none lie sized = refl
    pots_are levels low high (node k t none) lie sized = omega (arith, pot_is levels low high t lie sized.0)
    pots_are levels low high (node k t (node j u ns)) lie sized = omega (arith, pot_is levels low (Some j) t lie.2 sized.0, pots_are levels (Some j) high (node j u ns) lie.3 sized.1)

  pub few : (t : Tree V M) (packets : List (Messages M)) → HasShape meaning.weigh shape t → FlushesAreFew meaning shape t packets
  few t packets has =
      let high = (node_wide meaning.weigh shape has.levels None None t has.fits.lies has.fits.sized).high in
      let start : pot (height t) t ≡ levels_pending meaning shape t = ap (λ h. pot h t) high ∙ pot_is has.levels None None t has.fits.lies has.fits.sized in
      subst (λ n. flush_counts meaning shape t packets * suc shape.buffer ≤ shape.fanout * (n + levels_ahead meaning shape t packets)) start (run_paid t packets has)

  -- ---- a tree does not get lower

  -- siblings that are at least this high
  AreTall : ℕ → Siblings V M → Type 0
  AreTall h [] = Unit {0}
  AreTall h (x ∷ xs) = (h ≤ height x.1) × AreTall h xs

  tall-pivot_first : (h : ℕ) (k : Key) (xs : Siblings V M) → AreTall h xs → AreTall h (pivot_first k xs)
  unfolding AreTall
  tall-pivot_first h k [] tall = tt
  tall-pivot_first h k (x ∷ xs) tall = tall

  tall-rest : (h : ℕ) (xs ys : Siblings V M) → AreTall h (xs ++ ys) → AreTall h ys
  unfolding AreTall
  tall-rest h [] ys tall = tall
  tall-rest h (x ∷ xs) ys tall = tall-rest h xs ys tall.1

  tall-groups : (h : ℕ) (gs : List (List (Child V M))) → AllNonEmpty gs → AreTall h (without (joined gs)) → AreTall (suc h) (map gathered gs)
  unfolding AreTall
  tall-groups h [] full tall = tt
  tall-groups h ([] ∷ gs) full tall = absurd full.0
  tall-groups h ((c ∷ g) ∷ gs) full tall =
      (omega (arith, tall.0), tall-groups h gs full.1 (tall-rest h (without g) (without (joined gs)) (subst (AreTall h) (without-append g (joined gs)) tall.1)))

  some_group : (gs : List (List (Child V M))) (c : Child V M) (cs : List (Child V M)) → joined gs ≡ c ∷ cs → 1 ≤ length (pivot_first [] (map gathered gs))
  some_group [] c cs is = absurd cc
  some_group (g ∷ gs) c cs is = omega arith

  -- the single node above siblings is at least as high as they are
  crown_tall : (levels h : ℕ) → 0 < shape.fanout → (xs : Siblings V M) → 1 ≤ length xs → AreTall h xs → h ≤ height (crown_within levels shape xs)
  unfolding AreTall
  crown_tall levels h fan [] some tall = absurd (omega (arith, some))
  crown_tall levels h fan (x ∷ []) some tall = tall.0
  crown_tall zero h fan (x ∷ y ∷ xs) some tall = tall.0
  crown_tall (suc levels) h fan (x ∷ y ∷ xs) some tall =
      let first : Child V M = record { pivot = x.0; tree = x.1; pending = [] } in
      let others : List (Child V M) = none_pending (y ∷ xs) in
      let gs = deal shape.fanout (first ∷ others) in
      let all = joined-deal shape.fanout (first ∷ others) in
      let under = subst (λ (cs : List (Child V M)). AreTall h (without cs)) (sym all) (subst (AreTall h) (sym (without-none (x ∷ y ∷ xs))) tall) in
      let above = crown_tall levels (suc h) fan (grouped shape (none_pending (x ∷ y ∷ xs))) (some_group gs first others all)
      (tall-pivot_first (suc h) [] (map gathered gs) (tall-groups h gs (full-deal shape.fanout first others fan) under)) in
      omega (arith, above)

  siblings-tall : (levels : ℕ) (low high : Option Key) (xs : Siblings V M) → SiblingsLie levels low high xs → AreSized meaning.weigh shape (nodes xs) → AreTall (suc levels) xs
  unfolding AreTall
  siblings-tall levels low high [] lie sized = tt
  siblings-tall levels low high (x ∷ []) lie sized = (omega (arith, (node_wide meaning.weigh shape levels low high x.1 lie sized.0).high), tt)
  siblings-tall levels low high (x ∷ y ∷ xs) lie sized =
      (omega (arith, (node_wide meaning.weigh shape levels low (Some y.0) x.1 lie.2 sized.0).high), siblings-tall levels (Some y.0) high (y ∷ xs) lie.3 sized.1)

  grows : (t : Tree V M) (packet : Messages M) → HasShape meaning.weigh shape t → height t ≤ height (sunk meaning shape t packet)
  grows t packet has =
      let high = (node_wide meaning.weigh shape has.levels None None t has.fits.lies has.fits.sized).high in
      let fits = fit_there meaning Absorb shape has.roomy t packet _ refl has.levels None None has.fits (anywhere packet) in
      let xs = absorb meaning shape t packet in
      let tall = crown_tall (length xs) (suc has.levels) (omega (arith, has.roomy.fanout)) xs (some_length xs (led-full xs fits.led)) (siblings-tall has.levels None None xs fits.lie fits.sized) in
      omega (arith, high, tall)

  grows_all : (t : Tree V M) (packets : List (Messages M)) → HasShape meaning.weigh shape t → height t ≤ height (sunk_all meaning shape t packets)
  grows_all t [] has = omega arith
  grows_all t (packet ∷ packets) has =
      let next = grows_all (sunk meaning shape t packet) packets (sunk-has_shape meaning shape t has packet) in
      omega (arith, grows t packet has, next)

  ahead_sum : (one others below rest most now : ℕ) → now ≤ most → rest ≤ others * most → below ≡ one * now → below + rest ≤ (one + others) * most
  ahead_sum one others below rest most now less more is =
      let own = mul-le-mul_left one less in
      omega (arith, own, more, is)

  ahead_all : (t : Tree V M) (packets : List (Messages M)) → HasShape meaning.weigh shape t →
      levels_ahead meaning shape t packets ≤ arrived meaning shape packets * (height (sunk_all meaning shape t packets) - 1)
  ahead_all t [] has = omega arith
  ahead_all t (packet ∷ packets) has =
      let next = sunk meaning shape t packet in
      let shaped = sunk-has_shape meaning shape t has packet in
      let grown : height t - 1 ≤ height (sunk_all meaning shape next packets) - 1 = omega (arith, grows t packet has, grows_all next packets shaped) in
      ahead_sum (room packet) (arrived meaning shape packets) (room packet * (height t - 1)) (levels_ahead meaning shape next packets) (height (sunk_all meaning shape next packets) - 1) (height t - 1)
      grown (ahead_all next packets shaped) refl

  pub few_in_all : (t : Tree V M) (packets : List (Messages M)) → HasShape meaning.weigh shape t → FlushesAreFewInAll meaning shape t packets
  few_in_all t packets has =
      let sharp = few t packets has in
      let ahead : levels_pending meaning shape t + levels_ahead meaning shape t packets ≤ levels_pending meaning shape t + arrived meaning shape packets *
      (height (sunk_all meaning shape t packets) - 1) =
      omega (arith, ahead_all t packets has) in
      let more = mul-le-mul_left shape.fanout ahead in
      omega (arith, sharp, more)

  pub large : (flush : Flush V M) (cs : List (Child V M)) → FlushesAreLarge meaning shape flush cs
  large flush cs = large_from w (flushed flush) (flushed-none flush) (length cs) shape.buffer (total (loads meaning.weigh shape cs)) cs (heavy-few w cs)
