-- No node after a flush is larger than its shape allows.
use Rattle.std.proofs.Common.{◌≡◌, ℕ, zero, suc, ◌+◌, ◌<◌, ◌≤◌, Bool, true, false, cond, List, [], ◌∷◌, ◌++◌, map, length, refl, sym, ap, subst, ◌∙◌, arith, le_refl}
use Rattle.std.specs.declared.option.Option.{Option}
use Rattle.std.specs.declared.option.Option.TheVariants.{Some}
use Rattle.bt_keycode.specs.Keys.{Key, AllWithin}
use Rattle.bt_messages.proofs.offered.Loads.{load-append, load-none}
use Rattle.bt_form.specs.Messages.{Rows, Meaning, Messages, load, rows_after, with_messages, from}
use Rattle.bt_form.specs.Deals.{deal}
use Rattle.bt_form.specs.Plans.{total}
use Rattle.bt_form.specs.declared.mode.Mode.{Mode}
use Rattle.bt_form.specs.declared.mode.Mode.TheVariants.{Absorb, Drain}
use Rattle.bt_form.specs.Passes.{after_pass}
use Rattle.bt_form.specs.Trees.{Shape, Tree, leaf, inner, Nodes, none, node, Siblings, children, nodes}
use Rattle.bt_form.specs.Flushes.{Child, Flush, pivot_first, loads, pending_load, shared, flushed, flushed_in, flush_at, flush_in, gathered, grouped, leaves, none_pending}
use Rattle.bt_form.specs.Fits.{Lies, IsSized, AreSized}
use Rattle.bt_form.proofs.offered.deals.Parts.{joined, joined-deal}
use Rattle.bt_form.proofs.offered.deals.PartSizes.{Each, sizes-at_most, sizes-two, lengths-deal}
use Rattle.bt_flush.proofs.lemmas.plans.Capacity.{after_turns-fits}
use Rattle.bt_form.proofs.offered.plans.OnePass.{names}
use Rattle.bt_form.proofs.offered.flushes.Children.{ChildLies, ChildrenLie, all_pending}
use Rattle.bt_flush.proofs.offered.Drains.{all_pending-flushed}
use Rattle.bt_form.proofs.offered.flushes.Groups.{stripped, children-nodes, as_leaf}
use Rattle.bt_form.proofs.offered.flushes.Passes.{Keeps, flushed-light, slots, flushed-slots, names-slots}
use Rattle.bt_form.proofs.offered.flushes.RowsKept.{flush-at-levels}
use Rattle.bt_form.proofs.offered.flushes.ValuesKept.{TakesPacket, end-long, flush_at-keeps, slots-lie}

pub sized-pivot_first : {V M : Type 0} (weigh : Key × M → ℕ) (s : Shape) (k : Key) (xs : Siblings V M) → AreSized weigh s (nodes xs) → AreSized weigh s (nodes (pivot_first k xs))
sized-pivot_first weigh s k [] z = z
sized-pivot_first weigh s k (x ∷ xs) z = z

-- ---- leaves

parts-sized : {V M : Type 0} (weigh : Key × M → ℕ) (s : Shape) (gs : List (Rows V)) → Each (λ n. n ≤ s.leaf) (map length gs) → AreSized weigh s (nodes (map (as_leaf M) gs))
parts-sized weigh s [] e = tt
parts-sized weigh s (g ∷ gs) e = (e.0, parts-sized weigh s gs e.1)

pub leaves-sized : {V M : Type 0} (weigh : Key × M → ℕ) (s : Shape) (rs : Rows V) → 0 < s.leaf → AreSized weigh s (nodes (leaves s rs))
leaves-sized {M = M} weigh s rs some =
    sized-pivot_first weigh s [] (map (as_leaf M) (deal s.leaf rs))
    (parts-sized weigh s (deal s.leaf rs) (subst (Each (λ n. n ≤ s.leaf)) (sym (lengths-deal s.leaf rs)) (sizes-at_most (length rs) s.leaf some)))

-- ---- groups of children

module _ {V M : Type 0} (weigh : Key × M → ℕ) (s : Shape) where
  abbrev pub ChildrenSized : List (Child V M) → Type 0
  ChildrenSized cs = AreSized weigh s (nodes (stripped cs))

  first-sized : (cs ds : List (Child V M)) → ChildrenSized (cs ++ ds) → ChildrenSized cs
  first-sized [] ds z = tt
  first-sized (c ∷ cs) ds z = (z.0, first-sized cs ds z.1)

  rest-sized : (cs ds : List (Child V M)) → ChildrenSized (cs ++ ds) → ChildrenSized ds
  rest-sized [] ds z = z
  rest-sized (c ∷ cs) ds z = rest-sized cs ds z.1

  pub both-sized : (cs ds : List (Child V M)) → ChildrenSized cs → ChildrenSized ds → ChildrenSized (cs ++ ds)
  both-sized [] ds y z = z
  both-sized (c ∷ cs) ds y z = (y.0, both-sized cs ds y.1 z)

  pub none_pending-sized : (xs : Siblings V M) → AreSized weigh s (nodes xs) → ChildrenSized (none_pending xs)
  none_pending-sized [] z = tt
  none_pending-sized (x ∷ xs) z = (z.0, none_pending-sized xs z.1)

  length-stripped : (cs : List (Child V M)) → length (children (nodes (pivot_first [] (stripped cs)))) ≡ length cs
  length-stripped [] = refl
  length-stripped (c ∷ cs) = ap suc (ap length (children-nodes (stripped cs)) ∙ names-many cs)
    where
      names-many : (cs : List (Child V M)) → length (stripped cs) ≡ length cs
      names-many [] = refl
      names-many (c ∷ cs) = ap suc (names-many cs)

  -- the load of the buffer of these children
  abbrev pending : List (Child V M) → ℕ
  pending cs = load weigh s.measure (all_pending cs)

  pending-append : (cs ds : List (Child V M)) → pending (cs ++ ds) ≡ pending cs + pending ds
  pending-append [] ds = omega (arith, load-none weigh s.measure)
  pending-append (c ∷ cs) ds = omega (
    arith,
    load-append weigh s.measure c.pending (all_pending (cs ++ ds)),
    load-append weigh s.measure c.pending (all_pending cs),
    pending-append cs ds,
  )

  groups-sized : (gs : List (List (Child V M))) → Each (λ n. 2 ≤ n) (map length gs) → Each (λ n. n ≤ s.fanout) (map length gs) → pending (joined gs) ≤ s.buffer → ChildrenSized (joined gs) →
      AreSized weigh s (nodes (map gathered gs))
  groups-sized [] two most fits z = tt
  groups-sized (g ∷ gs) two most fits z =
      let n = length-stripped g in
      let w = pending-append g (joined gs) in (
        (
          subst (λ n. 2 ≤ n) (sym n) two.0,
          subst (λ n. n ≤ s.fanout) (sym n) most.0,
          omega arith,
          sized-pivot_first weigh s [] (stripped g) (first-sized g (joined gs) z),
        ),
        groups-sized gs two.1 most.1 (omega arith) (rest-sized g (joined gs) z),
      )

  -- two children or more, with at most the load that a buffer has room for
  pub grouped-sized : (cs : List (Child V M)) → 3 ≤ s.fanout → 2 ≤ length cs → load weigh s.measure (all_pending cs) ≤ s.buffer → ChildrenSized cs → AreSized weigh s (nodes (grouped s cs))
  grouped-sized cs three two fits z =
      let gs = deal s.fanout cs in
      let lengths = lengths-deal s.fanout cs in
      let all = joined-deal s.fanout cs in
      sized-pivot_first weigh s [] (map gathered gs)
      (groups-sized gs
      (subst (Each (λ n. 2 ≤ n)) (sym lengths) (sizes-two (length cs) s.fanout two three))
      (subst (Each (λ n. n ≤ s.fanout)) (sym lengths) (sizes-at_most (length cs) s.fanout (omega arith)))
      (subst (λ cs. pending cs ≤ s.buffer) (sym all) fits)
      (subst ChildrenSized (sym all) z))

  -- ---- sharing

  pub shared-sized : (ns : Nodes V M) (b : Messages M) → AreSized weigh s ns → ChildrenSized (shared (children ns) b)
  shared-sized none b z = tt
  shared-sized (node k t none) b z = (z.0, tt)
  shared-sized (node k t (node j u ns)) b z = (z.0, shared-sized (node j u ns) (from j b) z.1)

pub total-loads : {V M : Type 0} (weigh : Key × M → ℕ) (s : Shape) (cs : List (Child V M)) → total (loads weigh s cs) ≡ load weigh s.measure (all_pending cs)
total-loads weigh s [] = sym (load-none weigh s.measure)
total-loads weigh s (c ∷ cs) = omega (arith, load-append weigh s.measure c.pending (all_pending cs), total-loads weigh s cs)

-- the pending messages of flushed children fit
pub flushed-fits : {V M : Type 0} (weigh : Key × M → ℕ) (s : Shape) (mode : Mode) (f : Flush V M) (cs : List (Child V M)) → load weigh s.measure (all_pending (flushed_in weigh s mode f cs)) ≤ s.buffer
flushed-fits weigh s Absorb f cs = omega (
  arith,
  after_turns-fits (pending_load weigh s) (flushed f) (flushed-light weigh s f) s.buffer (total (loads weigh s cs)) cs (le_refl (total (loads weigh s cs))),
  total-loads weigh s (flushed_in weigh s Absorb f cs),
)
flushed-fits weigh s Drain f cs = omega (arith, ap (load weigh s.measure) (all_pending-flushed f cs), load-none weigh s.measure)

-- ---- one pass over the children

-- the nodes after a flush are no larger than the shape allows
abbrev pub KeepsSized : {V M : Type 0} → (Key × M → ℕ) → Shape → ℕ → Flush V M → Type 0
KeepsSized {V} {M} weigh s levels f = (low high : Option Key) (t : Tree V M) (p : Messages M) → Lies levels low high t → AllWithin low high p → IsSized weigh s t → AreSized weigh s (nodes (f t p))

module _ {V M : Type 0} (effect : Option V → M → Option V) (weigh : Key × M → ℕ) (s : Shape) (levels : ℕ) (f : Flush V M) (keeps : Keeps effect levels f) (sizes : KeepsSized weigh s levels f) where
  abbrev block : Child V M × Bool → List (Child V M)
  block c = cond c.1 (flushed f c.0) (c.0 ∷ [])

  abbrev pass : List (Child V M × Bool) → List (Child V M)
  pass = after_pass (flushed f)

  block-sized : (low high : Option Key) (c : Child V M × Bool) → ChildLies levels low high c.0 → IsSized weigh s c.0.tree → ChildrenSized weigh s (block c)
  block-sized low high (c, true) l z =
      none_pending-sized weigh s (pivot_first c.pivot (f c.tree c.pending)) (sized-pivot_first weigh s c.pivot (f c.tree c.pending) (sizes low high c.tree c.pending l.0 l.1 z))
  block-sized low high (c, false) l z = (z, tt)

  pass-sized : (low high : Option Key) (ss : List (Child V M × Bool)) → ChildrenLie levels low high (names ss) → ChildrenSized weigh s (names ss) → ChildrenSized weigh s (pass ss)
  pass-sized low high [] p z = tt
  pass-sized low high (c ∷ []) p z = both-sized weigh s (block c) [] (block-sized low high c p z.0) tt
  pass-sized low high (c ∷ d ∷ ss) p z = both-sized weigh s (block c) (pass (d ∷ ss)) (block-sized low (Some d.0.pivot) c p.2 z.0) (pass-sized (Some d.0.pivot) high (d ∷ ss) p.3 z.1)

module _ {V M : Type 0} (meaning : Meaning V M) (s : Shape) (leaf_some : 0 < s.leaf) (three : 3 ≤ s.fanout) where
  -- the children of an inner node after a flush, dealt
  node-sized : (mode : Mode) (levels : ℕ) (f : Flush V M) → KeepsSized meaning.weigh s levels f → (low high : Option Key) (ns : Nodes V M) (b p : Messages M) →
      TakesPacket meaning.effect levels f low high ns b p → IsSized meaning.weigh s (inner ns b)
      → AreSized meaning.weigh s (nodes (grouped s (flushed_in meaning.weigh s mode f (shared (children ns) (with_messages p b)))))
  node-sized mode levels f sizes low high ns b p takes z = grouped-sized meaning.weigh s _ three two (flushed-fits meaning.weigh s mode f cs) sized
    where
      cs : List (Child V M)
      cs = shared (children ns) (with_messages p b)

      two : 2 ≤ length (flushed_in meaning.weigh s mode f cs)
      two = omega (arith, end-long meaning s leaf_some (omega arith) mode levels f low high ns b p takes, z.0)

      sized : ChildrenSized meaning.weigh s (flushed_in meaning.weigh s mode f cs)
      sized =
          subst (ChildrenSized meaning.weigh s) (sym (flushed-slots meaning.weigh s mode f cs))
          (pass-sized meaning.effect meaning.weigh s levels f takes.keeps sizes low high (slots meaning.weigh s mode cs)
          (slots-lie meaning s leaf_some (omega arith) mode levels f low high ns b p takes)
          (subst (ChildrenSized meaning.weigh s) (sym (names-slots meaning.weigh s mode cs)) (shared-sized meaning.weigh s ns (with_messages p b) z.3)))

  flush_at-sized : (mode : Mode) (levels : ℕ) → KeepsSized meaning.weigh s levels (flush_at meaning mode (suc levels) s)
  flush_at-sized mode zero low high (leaf rs) p lies within z = leaves-sized meaning.weigh s (rows_after meaning.effect p rs) leaf_some
  flush_at-sized mode zero low high (inner ns b) p lies within z = absurd lies
  flush_at-sized mode (suc levels) low high (leaf rs) p lies within z = absurd lies
  flush_at-sized mode (suc levels) low high (inner ns b) p lies within z =
      let keeps = flush_at-keeps meaning s leaf_some (omega arith) mode levels in
      node-sized mode levels (flush_at meaning mode (suc levels) s) (flush_at-sized mode levels) low high ns b p (record { keeps = keeps; lies = lies; within = within }) z

module _ {V M : Type 0} (meaning : Meaning V M) (s : Shape) where
  -- a flush of a node that is no larger than the shape allows
  pub flush-sized : (mode : Mode) → 0 < s.leaf → 3 ≤ s.fanout → (levels : ℕ) → KeepsSized meaning.weigh s levels (flush_in meaning mode s)
  flush-sized mode leaf_some three levels low high t p lies within z =
      subst (λ xs. AreSized meaning.weigh s (nodes xs)) (sym (flush-at-levels meaning mode s levels low high t p lies))
      (flush_at-sized meaning s leaf_some three mode levels low high t p lies within z)
