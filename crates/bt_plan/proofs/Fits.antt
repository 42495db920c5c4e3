-- A tree that is cut fits: each job in its hole, and everything that stays in its place.
use Rattle.std.proofs.Common.{◌≡◌, ◌≤◌, ℕ, zero, suc, ◌<◌, Bool, true, false, cond, List, [], ◌∷◌, ◌++◌, length, map, refl, sym, ap, subst, ◌∙◌, arith}
use Rattle.std.proofs.lemmas.Bool.{cond_both}
use Rattle.std.proofs.lemmas.List.{length-map}
use Rattle.std.specs.declared.option.Option.{Option}
use Rattle.std.specs.declared.option.Option.TheVariants.{Some}
use Rattle.bt_keycode.specs.Keys.{Key, AllWithin, IsSorted, SideBySide}
use Rattle.bt_value.specs.Lists.{concatenation}
use Rattle.bt_messages.specs.Bins.{LieBetween, parts}
use Rattle.bt_messages.proofs.offered.Parts.{concatenation_sorted, parts-concatenation}
use Rattle.bt_messages.proofs.offered.Placed.{sorted-with_messages}
use Rattle.bt_form.specs.Fits.{IsSized, Lies}
use Rattle.bt_form.specs.Flushes.{Child, Flush, shared}
use Rattle.bt_form.specs.Marks.{has_room}
use Rattle.bt_form.specs.Messages.{Meaning, Messages, load, with_messages}
use Rattle.bt_form.specs.Trees.{Shape, Tree, leaf, inner, children}
use Rattle.bt_form.specs.declared.mode.Mode.{Mode}
use Rattle.bt_node.proofs.offered.FlushSteps.{ChildLies, ChildrenLie, ChildrenSized, all_pending, all_pending-shared, all_pending-within, divided-lie}
use Rattle.bt_node.proofs.offered.FlushSteps.{flushed-fits, length-shared, names, start-lies, flushed-slots, names-slots, slots}
use Rattle.bt_plan.specs.Pieces.{Holed, HoledChild, HoledFits, HoledNodes, IsSent, Place, hole, holed_nodes, opened, pivots_below, shared_below, whole, with_bins}
use Rattle.bt_plan.specs.Cuts.{Job, child_place, cut_out, left_pending}
use Rattle.bt_plan.specs.Laws.{JobFits}
use Rattle.bt_plan.proofs.Filling.{AreSlots, opened_children, opened_node, room-within, slots-are}
use Rattle.bt_plan.proofs.Passes.{pending-pass}

-- ---- the messages left in the bins

module _ {V M : Type 0} where
  -- they are within capacity
  left-within : (weigh : Key × M → ℕ) (s : Shape) (mode : Mode) (cs : List (Child V M)) → load weigh s.measure (left_pending (slots weigh s mode cs)) ≤ s.buffer
  left-within weigh s mode cs =
      let f : Flush V M = λ t p. [] in
      let room = load weigh s.measure in
      omega (arith, flushed-fits weigh s mode f cs, ap (λ ds. room (all_pending ds)) (flushed-slots weigh s mode f cs), ap room (pending-pass f (slots weigh s mode cs)))

  -- a child with the messages left in its bin
  abbrev kept : Child V M × Bool → Child V M
  kept s = record { pivot = s.0.pivot; tree = s.0.tree; pending = cond s.1 [] s.0.pending }

  abbrev bins : List (Child V M × Bool) → List (Messages M)
  bins ss = map (λ c. c.pending) (map kept ss)

  kept-lies : (levels : ℕ) (low high : Option Key) (s : Child V M × Bool) → ChildLies levels low high s.0 → ChildLies levels low high (kept s)
  kept-lies levels low high (c, true) l = (l.0, tt, tt)
  kept-lies levels low high (c, false) l = l

  all-lie : (levels : ℕ) (low high : Option Key) (ss : List (Child V M × Bool)) → ChildrenLie levels low high (names ss) → ChildrenLie levels low high (map kept ss)
  all-lie levels low high [] p = tt
  all-lie levels low high (c ∷ []) p = kept-lies levels low high c p
  all-lie levels low high (c ∷ d ∷ ss) p = (p.0, p.1, kept-lies levels low (Some d.0.pivot) c p.2, all-lie levels (Some d.0.pivot) high (d ∷ ss) p.3)

  joined-left : (ss : List (Child V M × Bool)) → concatenation (bins ss) ≡ left_pending ss
  joined-left [] = refl
  joined-left (c ∷ ss) = ap (λ z. cond c.1 [] c.0.pending ++ z) (joined-left ss)

  length-names : (ss : List (Child V M × Bool)) → length (names ss) ≡ length ss
  length-names [] = refl
  length-names (c ∷ ss) = ap suc (length-names ss)

  -- nothing is pending for a node that is moved out
  sent-none : {H : Type 0} (h : Holed V M H) → IsSent h []
  sent-none (whole t) = tt
  sent-none (hole h) = refl
  sent-none (opened hs buffer) = refl

module _ {V M : Type 0} (meaning : Meaning V M) (s : Shape) (leaf_some : 0 < s.leaf) (fanout_some : 0 < s.fanout) (mode : Mode) where
  abbrev Suits : ℕ → ℕ → Type 0
  Suits depth levels = (place : Place) (low high : Option Key) (t : Tree V M) (p : Messages M) → Lies levels low high t → IsSized meaning.weigh s t → AllWithin low high p →
      HoledFits meaning.weigh (JobFits meaning.weigh s) s levels low high (cut_out meaning.weigh depth mode s place t p)

  -- a child in its place, with its bin
  abbrev Fits : ℕ → Option Key → Option Key → HoledChild V M (Job V M) → Type 0
  Fits levels low high c = HoledFits meaning.weigh (JobFits meaning.weigh s) s levels low high c.node × AllWithin low high c.pending × IsSorted c.pending × IsSent c.node c.pending

  child-fits : (depth levels : ℕ) → Suits depth levels → (place : Place) (low high : Option Key) (c : Child V M × Bool) → ChildLies levels low high c.0 → IsSized meaning.weigh s c.0.tree →
      Fits levels low high (record { pivot = c.0.pivot; node = cond c.1 (cut_out meaning.weigh depth mode s place c.0.tree c.0.pending) (whole c.0.tree); pending = cond c.1 [] c.0.pending })
  child-fits depth levels suits place low high (c, true) lies sized =
      (suits place low high c.tree c.pending lies.0 sized lies.1, tt, tt, sent-none (cut_out meaning.weigh depth mode s place c.tree c.pending))
  child-fits depth levels suits place low high (c, false) lies sized = (record { lies = lies.0; sized = sized }, lies.1, lies.2, tt)

  abbrev below : ℕ → Place → ℕ → List (Child V M × Bool) → HoledNodes V M (Job V M)
  below depth place i ss = holed_nodes (opened_children meaning.weigh depth mode s place i ss)

  children-fit : (depth levels : ℕ) → Suits depth levels → (place : Place) (i : ℕ) (low high : Option Key) (ss : List (Child V M × Bool)) →
      ChildrenLie levels low high (names ss) → ChildrenSized meaning.weigh s (names ss) → SideBySide (λ c. c.pivot) (Fits levels) low high (with_bins (below depth place i ss) (bins ss))
  children-fit depth levels suits place i low high [] lie sized = tt
  children-fit depth levels suits place i low high (c ∷ []) lie sized = child-fits depth levels suits (child_place place i) low high c lie sized.0
  children-fit depth levels suits place i low high (c ∷ d ∷ ss) lie sized = (
    lie.0,
    lie.1,
    child-fits depth levels suits (child_place place i) low (Some d.0.pivot) c lie.2 sized.0,
    children-fit depth levels suits place (suc i) (Some d.0.pivot) high (d ∷ ss) lie.3 sized.1,
  )

  pivots-opened : (depth : ℕ) (place : Place) (i : ℕ) (ss : List (Child V M × Bool)) → pivots_below (below depth place i ss) ≡ map (λ c. c.pivot) (map kept ss)
  pivots-opened depth place i [] = refl
  pivots-opened depth place i (c ∷ ss) = ap (λ ks. c.0.pivot ∷ ks) (pivots-opened depth place (suc i) ss)

  -- the messages that are left are divided again into the bins
  shared-left : (depth levels : ℕ) (place : Place) (low high : Option Key) (ss : List (Child V M × Bool)) → ChildrenLie levels low high (names ss) →
      shared_below (below depth place 0 ss) (left_pending ss) ≡ with_bins (below depth place 0 ss) (bins ss)
  shared-left depth levels place low high [] lie = refl
  shared-left depth levels place low high (c ∷ ss) lie =
      let ks = map (λ c. c.pivot) (map kept ss) in
      let divided : LieBetween ks (bins (c ∷ ss)) = divided-lie levels low high (map kept (c ∷ ss)) (all-lie levels low high (c ∷ ss) lie) in
      ap (with_bins (below depth place 0 (c ∷ ss)))
      (ap (λ js. parts js (left_pending (c ∷ ss))) (pivots-opened depth place 1 ss)
      ∙ ap (parts ks) (sym (joined-left (c ∷ ss)))
      ∙ parts-concatenation ks (bins (c ∷ ss)) divided)

  left-sorted : (levels : ℕ) (low high : Option Key) (ss : List (Child V M × Bool)) → ChildrenLie levels low high (names ss) → IsSorted (left_pending ss)
  left-sorted levels low high [] lie = tt
  left-sorted levels low high (c ∷ ss) lie =
      subst IsSorted (joined-left (c ∷ ss))
      (concatenation_sorted (map (λ c. c.pivot) (map kept ss)) (bins (c ∷ ss)) (divided-lie levels low high (map kept (c ∷ ss)) (all-lie levels low high (c ∷ ss) lie)))

  -- at any depth
  pub cut-fits : (depth levels : ℕ) → Suits depth levels
  cut-fits zero levels place low high t p lies sized within = (record { lies = lies; sized = sized }, within)
  cut-fits (suc depth) levels place low high (leaf rows) p lies sized within = (record { lies = lies; sized = sized }, within)
  cut-fits (suc depth) zero place low high (inner ns b) p lies sized within = absurd lies
  cut-fits (suc depth) (suc levels) place low high (inner ns b) p lies sized within =
      let all = with_messages p b in
      let sorted = sorted-with_messages p b lies.1 in
      let cs = shared (children ns) all in
      let ss = slots meaning.weigh s mode cs in
      let are : AreSlots meaning.weigh s levels low high ss = slots-are meaning s leaf_some fanout_some mode levels low high ns b p lies sized within in
      cond_both (has_room mode s (load meaning.weigh s.measure all)) (whole (inner ns all)) (opened_node meaning.weigh depth mode s place ss)
      (HoledFits meaning.weigh (JobFits meaning.weigh s) s (suc levels) low high)
      (λ room. record {
        lies = (
          subst (AllWithin low high) (all_pending-shared (children ns) all (omega (arith, sized.0)) sorted)
              (all_pending-within levels low high cs (start-lies meaning s leaf_some fanout_some levels low high ns b p lies within)),
          sorted,
          lies.2,
          lies.3,
        );
        sized = (sized.0, sized.1, room-within mode s (load meaning.weigh s.measure all) room, sized.3);
      })
      (λ _. (
        omega (
          arith,
          sized.0,
          length-shared (children ns) all,
          ap length (names-slots meaning.weigh s mode cs),
          length-names ss,
          length-map ss kept,
          length-map (map kept ss) (λ (c : Child V M). c.pivot),
          ap length (pivots-opened depth place 0 ss),
        ),
        left-within meaning.weigh s mode cs,
        left-sorted levels low high ss are.lie,
        subst (SideBySide (λ c. c.pivot) (Fits levels) low high) (sym (shared-left depth levels place low high ss are.lie))
            (children-fit depth levels (cut-fits depth levels) place 0 low high ss are.lie are.sized),
      ))
