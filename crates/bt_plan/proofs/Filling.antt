-- A tree that is cut and filled gives the same as a flush of the packet.
use Rattle.std.proofs.Common.{◌≡◌, ◌≤◌, ℕ, zero, suc, ◌<◌, Bool, true, false, cond, List, [], ◌∷◌, ◌++◌, length, map, refl, sym, ap, subst, ◌∙◌, true≢false}
use Rattle.std.proofs.lemmas.Bool.{cond_both, leb-true}
use Rattle.std.specs.declared.option.Option.{Option}
use Rattle.std.specs.declared.option.Option.TheVariants.{Some}
use Rattle.bt_keycode.specs.Keys.{Key, AllWithin, IsSorted}
use Rattle.bt_messages.proofs.offered.Placed.{sorted-with_messages}
use Rattle.bt_form.specs.Fits.{IsLed, IsSized, Lies}
use Rattle.bt_form.specs.Flushes.{Child, Flush, flush_in, flushed, flushed_in, grouped, pivot_first, shared}
use Rattle.bt_form.specs.Marks.{has_room}
use Rattle.bt_form.specs.Messages.{Meaning, Messages, load, with_messages}
use Rattle.bt_form.specs.Trees.{Nodes, Shape, Tree, leaf, inner, children}
use Rattle.bt_form.specs.declared.mode.Mode.{Mode}
use Rattle.bt_form.specs.declared.mode.Mode.TheVariants.{Absorb, Drain}
use Rattle.bt_node.proofs.offered.FlushSteps.{ChildLies, ChildrenLie, ChildrenSized, names, shared-sized, start-lies, stripped}
use Rattle.bt_node.proofs.offered.FlushSteps.{Keeps, after_pass-lie, flush-keeps, flush_recurs, flushed-slots, names-slots, slots, still-here}
use Rattle.bt_plan.specs.Pieces.{Holed, Place, filled_below, filled_with, holed_nodes, opened, whole}
use Rattle.bt_plan.specs.Cuts.{Job, child_place, cut_out, left_pending, outcome, with_numbers}
use Rattle.bt_plan.proofs.Passes.{lies-divides, pass, pending-pass, stripped-none}

-- the children of an opened node, from the i-th on
abbrev pub opened_children : {V M : Type 0} → (Key × M → ℕ) → ℕ → Mode → Shape → Place → ℕ → List (Child V M × Bool) → List (Key × Holed V M (Job V M))
opened_children weigh depth mode shape place i ss =
    map (λ s. (s.1.0.pivot, cond s.1.1 (cut_out weigh depth mode shape (child_place place s.0) s.1.0.tree s.1.0.pending) (whole s.1.0.tree))) (with_numbers i ss)

-- the node with these children
abbrev pub opened_node : {V M : Type 0} → (Key × M → ℕ) → ℕ → Mode → Shape → Place → List (Child V M × Bool) → Holed V M (Job V M)
opened_node weigh depth mode shape place ss = opened (holed_nodes (opened_children weigh depth mode shape place 0 ss)) (left_pending ss)

-- if a node has room for all its messages, they are within its capacity
pub room-within : (mode : Mode) (s : Shape) (n : ℕ) → has_room mode s n ≡ true → n ≤ s.buffer
room-within Absorb s n room = leb-true n s.buffer room
room-within Drain s n room = absurd (true≢false (sym room))

module _ {V M : Type 0} where
  -- so none goes down, and the node stays as it is
  node-stays : (weigh : Key × M → ℕ) (mode : Mode) (s : Shape) (ns : Nodes V M) (b : Messages M) → has_room mode s (load weigh s.measure b) ≡ true → IsLed (children ns) → IsSorted b → 1 ≤ s.fanout →
      length (children ns) ≤ s.fanout → (f : Flush V M) → grouped s (flushed_in weigh s mode f (shared (children ns) b)) ≡ ([], inner ns b) ∷ []
  node-stays weigh Absorb s ns b room led sorted some few f = still-here weigh s ns b led sorted some few (room-within Absorb s (load weigh s.measure b) room) f
  node-stays weigh Drain s ns b room led sorted some few f = absurd (true≢false (sym room))

  -- children with their marks, in their places and no larger than the shape allows
  pub record AreSlots (weigh : Key × M → ℕ) (s : Shape) (levels : ℕ) (low high : Option Key) (ss : List (Child V M × Bool)) : Type 0 where
    pub lie : ChildrenLie levels low high (names ss)
    pub sized : ChildrenSized weigh s (names ss)

module _ {V M : Type 0} (meaning : Meaning V M) (s : Shape) (leaf_some : 0 < s.leaf) (fanout_some : 0 < s.fanout) (mode : Mode) where
  -- the children of a node that takes a packet
  pub slots-are : (levels : ℕ) (low high : Option Key) (ns : Nodes V M) (b p : Messages M) → Lies (suc levels) low high (inner ns b) → IsSized meaning.weigh s (inner ns b) → AllWithin low high p →
      AreSlots meaning.weigh s levels low high (slots meaning.weigh s mode (shared (children ns) (with_messages p b)))
  slots-are levels low high ns b p lies sized within =
      let all = with_messages p b in
      let cs = shared (children ns) all in
      let same = sym (names-slots meaning.weigh s mode cs) in
      record {
        lie = subst (ChildrenLie levels low high) same (start-lies meaning s leaf_some fanout_some levels low high ns b p lies within);
        sized = subst (ChildrenSized meaning.weigh s) same (shared-sized meaning.weigh s ns all sized.3);
      }

  abbrev f : Flush V M
  f = flush_in meaning mode s

  -- the children in their places after the pass can be divided again
  pass-divides : (levels : ℕ) (low high : Option Key) (ss : List (Child V M × Bool)) → ChildrenLie levels low high (names ss) → shared (stripped (pass f ss)) (left_pending ss) ≡ pass f ss
  pass-divides levels low high ss lie =
      let keeps : Keeps meaning.effect levels f = λ low high t p lies within. flush-keeps meaning mode s leaf_some fanout_some levels low high t p lies within in
      ap (shared (stripped (pass f ss))) (sym (pending-pass f ss)) ∙ lies-divides levels low high (pass f ss) (after_pass-lie meaning.effect levels f keeps low high ss lie)

  -- ---- filling

  abbrev Refills : ℕ → ℕ → Type 0
  Refills depth levels = (place : Place) (low high : Option Key) (t : Tree V M) (p : Messages M) → Lies levels low high t → IsSized meaning.weigh s t → AllWithin low high p →
      filled_with s (outcome meaning s) (cut_out meaning.weigh depth mode s place t p) ≡ f t p

  child-filled : (depth levels : ℕ) → Refills depth levels → (place : Place) (low high : Option Key) (c : Child V M × Bool) (cs : List (Child V M)) →
      ChildLies levels low high c.0 → IsSized meaning.weigh s c.0.tree →
      pivot_first c.0.pivot (filled_with s (outcome meaning s) (cond c.1 (cut_out meaning.weigh depth mode s place c.0.tree c.0.pending) (whole c.0.tree))) ++ stripped cs
      ≡ stripped (cond c.1 (flushed f c.0) (c.0 ∷ []) ++ cs)
  child-filled depth levels refills place low high (c, true) cs lies sized =
      ap (λ xs. pivot_first c.pivot xs ++ stripped cs) (refills place low high c.tree c.pending lies.0 sized lies.1)
      ∙ sym (stripped-none (pivot_first c.pivot (f c.tree c.pending)) cs)
  child-filled depth levels refills place low high (c, false) cs lies sized = refl

  children-filled : (depth levels : ℕ) → Refills depth levels → (place : Place) (i : ℕ) (low high : Option Key) (ss : List (Child V M × Bool)) →
      ChildrenLie levels low high (names ss) → ChildrenSized meaning.weigh s (names ss) →
      filled_below s (outcome meaning s) (holed_nodes (opened_children meaning.weigh depth mode s place i ss)) ≡ stripped (pass f ss)
  children-filled depth levels refills place i low high [] lie sized = refl
  children-filled depth levels refills place i low high (c ∷ []) lie sized = child-filled depth levels refills (child_place place i) low high c [] lie sized.0
  children-filled depth levels refills place i low high (c ∷ d ∷ ss) lie sized =
      ap (λ xs. pivot_first c.0.pivot (filled_with s (outcome meaning s) (cond c.1 (cut_out meaning.weigh depth mode s (child_place place i) c.0.tree c.0.pending) (whole c.0.tree))) ++ xs)
      (children-filled depth levels refills place (suc i) (Some d.0.pivot) high (d ∷ ss) lie.3 sized.1)
      ∙ child-filled depth levels refills (child_place place i) low (Some d.0.pivot) c (pass f (d ∷ ss)) lie.2 sized.0

  -- at any depth
  pub cut-filled : (depth levels : ℕ) → Refills depth levels
  cut-filled zero levels place low high t p lies sized within = refl
  cut-filled (suc depth) zero place low high (leaf rows) p lies sized within = refl
  cut-filled (suc depth) zero place low high (inner ns b) p lies sized within = absurd lies
  cut-filled (suc depth) (suc levels) place low high (leaf rows) p lies sized within = absurd lies
  cut-filled (suc depth) (suc levels) place low high (inner ns b) p lies sized within =
      let all = with_messages p b in
      let cs = shared (children ns) all in
      let ss = slots meaning.weigh s mode cs in
      let are = slots-are levels low high ns b p lies sized within in
      cond_both (has_room mode s (load meaning.weigh s.measure all)) (whole (inner ns all)) (opened_node meaning.weigh depth mode s place ss)
      (λ h. filled_with s (outcome meaning s) h ≡ f (inner ns b) p)
      (λ room. sym (flush_recurs meaning mode s ns b p ∙ node-stays meaning.weigh mode s ns all room lies.3 (sorted-with_messages p b lies.1) fanout_some sized.1 f))
      (λ _. ap (λ xs. grouped s (shared xs (left_pending ss))) (children-filled depth levels (cut-filled depth levels) place 0 low high ss are.lie are.sized)
      ∙ ap (grouped s) (pass-divides levels low high ss are.lie ∙ sym (flushed-slots meaning.weigh s mode f cs))
      ∙ sym (flush_recurs meaning mode s ns b p))
