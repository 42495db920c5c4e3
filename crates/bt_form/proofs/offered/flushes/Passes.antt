-- One pass over the children, some of which are flushed: they stay in the same places, and so do the values found among them.
use Rattle.std.proofs.Common.{◌≡◌, ◌≤◌, ℕ, Bool, true, false, cond, List, [], ◌∷◌, ◌++◌, length, map, refl, sym, ap, ◌∙◌, append-nil, arith, le_refl}
use Rattle.std.proofs.lemmas.List.{length-map}
use Rattle.std.specs.List.{flat_map, zip}
use Rattle.std.specs.FinMap.{find}
use Rattle.std.specs.declared.option.Option.{Option}
use Rattle.std.specs.declared.option.Option.TheVariants.{Some}
use Rattle.bt_keycode.specs.Keys.{Key, key_cmp, AllWithin, SideBySide}
use Rattle.bt_messages.proofs.offered.Loads.{load-none}
use Rattle.bt_form.specs.Messages.{Messages, value_after}
use Rattle.bt_form.specs.Plans.{total, planned}
use Rattle.bt_form.specs.Marks.{flush_marks}
use Rattle.bt_form.specs.declared.mode.Mode.{Mode}
use Rattle.bt_form.specs.declared.mode.Mode.TheVariants.{Absorb, Drain}
use Rattle.bt_form.specs.Passes.{IsLight, after_pass}
use Rattle.bt_form.specs.Trees.{Shape, Tree, Siblings}
use Rattle.bt_form.specs.Flushes.{Child, Flush, pivot_first, loads, none_pending, pending_load, flushed, flushed_in, holds, all_hold}
use Rattle.bt_form.specs.Fits.{IsLed, Lies, SiblingsLie}
use Rattle.bt_form.proofs.offered.keys.SideBySide.{Begins, blocks-lie, blocks-long, led-side, side-map, side-mapped, side-weaken}
use Rattle.bt_form.proofs.offered.rows.Values.{find-append, or_else, or_else-None}
use Rattle.bt_form.proofs.offered.plans.Marks.{length-flush_marks, marked-words, names-zip}
use Rattle.bt_form.proofs.offered.plans.OnePass.{after_turns-planned, names}
use Rattle.bt_form.proofs.offered.flushes.Children.{ChildLies, ChildrenLie, seen, seen_in, seen-append}
use Rattle.bt_form.proofs.offered.flushes.Groups.{all-pivot_first}

-- the nodes after a flush lie in the place of the node, and have the values of the node after the packet
pub record Kept {V M : Type 0} (effect : Option V → M → Option V) (levels : ℕ) (low high : Option Key) (t : Tree V M) (p : Messages M) (xs : Siblings V M) : Type 0 where
  pub lie : SiblingsLie levels low high xs
  pub led : IsLed xs
  pub finds : (q : Key) → find key_cmp q (all_hold effect xs) ≡ value_after effect q p (find key_cmp q (holds effect t))

abbrev pub Keeps : {V M : Type 0} → (Option V → M → Option V) → ℕ → Flush V M → Type 0
Keeps {V} {M} effect levels f = (low high : Option Key) (t : Tree V M) (p : Messages M) → Lies levels low high t → AllWithin low high p → Kept effect levels low high t p (f t p)

none_pending-lie : {V M : Type 0} (levels : ℕ) (low high : Option Key) (xs : Siblings V M) → SiblingsLie levels low high xs → ChildrenLie levels low high (none_pending xs)
none_pending-lie levels low high xs b = side-map (λ x. record { pivot = x.0; tree = x.1; pending = [] }) (λ c. c.pivot) (ChildLies levels) low high xs
    (side-weaken (λ x. x.0) (λ l h x. Lies levels l h x.1) (λ l h x. ChildLies levels l h (record { pivot = x.0; tree = x.1; pending = [] })) (λ l h x lies. (lies, tt, tt)) low high xs b)

-- siblings in the place of a child, without pending messages
pub in_place : {V M : Type 0} (levels : ℕ) (low high : Option Key) (k : Key) (xs : Siblings V M) → IsLed xs → SiblingsLie levels low high xs →
    Begins (λ c. c.pivot) k (none_pending (pivot_first k xs)) × ChildrenLie levels low high (none_pending (pivot_first k xs))
in_place levels low high k [] led lie = absurd led
in_place levels low high k (x ∷ xs) led lie = (refl, none_pending-lie levels low high ((k, x.1) ∷ xs) (led-side (λ l h t. Lies levels l h t) k low high (x ∷ xs) lie))

module _ {V M : Type 0} (effect : Option V → M → Option V) (levels : ℕ) (f : Flush V M) (keeps : Keeps effect levels f) where
  pub seen-none_pending : (q : Key) (xs : Siblings V M) → seen_in effect q (none_pending xs) ≡ find key_cmp q (all_hold effect xs)
  seen-none_pending q [] = refl
  seen-none_pending q (x ∷ xs) = ap (or_else (find key_cmp q (holds effect x.1))) (seen-none_pending q xs) ∙ sym (find-append q (holds effect x.1) (all_hold effect xs))

  -- one child, flushed or not
  abbrev block : Child V M × Bool → List (Child V M)
  block s = cond s.1 (flushed f s.0) (s.0 ∷ [])

  block-lies : (low high : Option Key) (s : Child V M × Bool) → ChildLies levels low high s.0 → Begins (λ c. c.pivot) s.0.pivot (block s) × ChildrenLie levels low high (block s)
  block-lies low high (c, true) g = let k = keeps low high c.tree c.pending g.0 g.1 in in_place levels low high c.pivot (f c.tree c.pending) k.led k.lie
  block-lies low high (c, false) g = (refl, g)

  seen-block : (q : Key) (low high : Option Key) (s : Child V M × Bool) → ChildLies levels low high s.0 → seen_in effect q (block s) ≡ seen effect q s.0
  seen-block q low high (c, true) g =
      let k = keeps low high c.tree c.pending g.0 g.1 in
      seen-none_pending q (pivot_first c.pivot (f c.tree c.pending))
      ∙ ap (find key_cmp q) (all-pivot_first effect c.pivot (f c.tree c.pending))
      ∙ k.finds q
  seen-block q low high (c, false) g = or_else-None (seen effect q c)

  abbrev pass : List (Child V M × Bool) → List (Child V M)
  pass = after_pass (flushed f)

  -- marked children in their places
  marked-lie : (low high : Option Key) (ss : List (Child V M × Bool)) → ChildrenLie levels low high (names ss) → SideBySide (λ s. s.0.pivot) (λ l h s. ChildLies levels l h s.0) low high ss
  marked-lie low high ss p = side-mapped (λ s. s.0) (λ c. c.pivot) (ChildLies levels) low high ss p

  pub after_pass-lie : (low high : Option Key) (ss : List (Child V M × Bool)) → ChildrenLie levels low high (names ss) → ChildrenLie levels low high (pass ss)
  after_pass-lie low high ss p =
      blocks-lie (λ s. s.0.pivot) (λ l h s. ChildLies levels l h s.0) (λ c. c.pivot) (ChildLies levels) block block-lies low high ss (marked-lie low high ss p)

  -- no child disappears
  pub after_pass-long : (low high : Option Key) (ss : List (Child V M × Bool)) → ChildrenLie levels low high (names ss) → length (names ss) ≤ length (pass ss)
  after_pass-long low high ss p = omega (
    arith,
    length-map ss (λ (s : Child V M × Bool). s.0),
    blocks-long (λ s. s.0.pivot) (λ l h s. ChildLies levels l h s.0) (λ c. c.pivot) (ChildLies levels) block block-lies low high ss (marked-lie low high ss p),
  )

  pub seen-after_pass : (q : Key) (low high : Option Key) (ss : List (Child V M × Bool)) → ChildrenLie levels low high (names ss) → seen_in effect q (pass ss) ≡ seen_in effect q (names ss)
  seen-after_pass q low high [] p = refl
  seen-after_pass q low high (s ∷ []) p = ap (seen_in effect q) (append-nil (block s)) ∙ seen-block q low high s p ∙ sym (or_else-None (seen effect q s.0))
  seen-after_pass q low high (s ∷ t ∷ ss) p =
      seen-append effect q (block s) (pass (t ∷ ss))
      ∙ ap (λ z. or_else z (seen_in effect q (pass (t ∷ ss)))) (seen-block q low (Some t.0.pivot) s p.2)
      ∙ ap (or_else (seen effect q s.0)) (seen-after_pass q (Some t.0.pivot) high (t ∷ ss) p.3)

-- ---- the pass that the marks give

module _ {V M : Type 0} (weigh : Key × M → ℕ) (s : Shape) where
  none_pending-light : (xs : Siblings V M) → IsLight (pending_load weigh s) (none_pending xs)
  none_pending-light [] = tt
  none_pending-light (x ∷ xs) = (load-none weigh s.measure, none_pending-light xs)

  pub flushed-light : (f : Flush V M) (c : Child V M) → IsLight (pending_load weigh s) (flushed f c)
  flushed-light f c = none_pending-light (pivot_first c.pivot (f c.tree c.pending))

  -- the children, each with whether it is flushed
  abbrev pub slots : Mode → List (Child V M) → List (Child V M × Bool)
  slots mode cs = zip cs (flush_marks mode s.buffer (loads weigh s cs))

  -- the marked children are those that are flushed
  pub flushed-slots : (mode : Mode) (f : Flush V M) (cs : List (Child V M)) → flushed_in weigh s mode f cs ≡ after_pass (flushed f) (slots mode cs)
  flushed-slots Absorb f cs =
      after_turns-planned (pending_load weigh s) (flushed f) (flushed-light f) s.buffer (total (loads weigh s cs)) cs (le_refl (total (loads weigh s cs)))
      ∙ ap (after_pass (flushed f)) (marked-words (pending_load weigh s) (planned (loads weigh s cs) s.buffer) cs)
  flushed-slots Drain f cs = each cs
    where
      each : (cs : List (Child V M)) → flat_map (flushed f) cs ≡ after_pass (flushed f) (zip cs (map (λ n. true) (loads weigh s cs)))
      each [] = refl
      each (c ∷ cs) = ap (λ z. flushed f c ++ z) (each cs)

  pub names-slots : (mode : Mode) (cs : List (Child V M)) → names (slots mode cs) ≡ cs
  names-slots mode cs = names-zip cs (flush_marks mode s.buffer (loads weigh s cs)) (length-flush_marks mode s.buffer (loads weigh s cs) ∙ length-map cs (pending_load weigh s))
